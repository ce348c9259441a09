-- After a lawful past each page has a level for each cell, and so each sense has the bytes of a page's word; and the sum of each
-- stripe is a page's word of codewords.
use Rattle.std.proofs.Common.{◌≡◌, ap, sym, ◌∙◌, ℕ, zero, suc, ◌+◌, ◌*◌, ◌/◌, ◌<◌, ◌&&◌, ◌==◌, nat_lt, Bool, true, false, List, [], ◌∷◌, ◌++◌, length, map, get_or, Option, Some, None, option_map, slice_get, ℤ, arith}
use Rattle.std.specs.Prelude.{All, IsTrue, ⊤}
use Rattle.std.proofs.lemmas.List.{length-map, length-replicate}
use Rattle.std.proofs.lemmas.List.FromFn.{length-map-range_with_len}
use Rattle.ssd_geo.specs.Bits.{bytes_sum}
use Rattle.ssd_geo.specs.Cells.{fresh_level, sensed, sensed_bit, aged_level}
use Rattle.ssd_geo.specs.Coding.{Coding, coding_of}
use Rattle.ssd_geo.specs.Ladder.{is_recovered, ladder_over, word_recovered}
use Rattle.ssd_geo.specs.Limits.{page_cells_of, word_bytes_of}
use Rattle.ssd_geo.specs.Noise.{number_of_page, start_of_program}
use Rattle.ssd_geo.specs.Shape.{sizes_of}
use Rattle.ssd_geo.specs.Stripe.{stripe_of_index}
use Rattle.ssd_geo.specs.StripeSum.{zero_word}
use Rattle.ssd_geo.specs.declared.base.ChannelBase.{ChannelBase}
use Rattle.ssd_geo.specs.declared.entry.Entry.{Entry}
use Rattle.ssd_geo.specs.declared.kind.Kind.{Kind}
use Rattle.ssd_geo.specs.declared.place.Place.{Place}
use Rattle.ssd_geo.specs.declared.tag.Tag.{Tag}
use Rattle.ssd_histories.specs.History.{look_of, open_look}
use Rattle.ssd_histories.specs.Lawful.{IsLawful, IsLawfulBadCopy, IsLawfulKind, IsLawfulMove}
use Rattle.ssd_histories.specs.PastBlocks.{erases_of}
use Rattle.ssd_histories.specs.PastPages.{PageChange, StoredPage, SumChange, adds, aged_page, ages, change_when, clears, empties, fresh_page, is_open_in_image, keeps, ladder_of, leaves, levels_in, page_change, page_of, programs, programs_parity, sense_for, senses_of, stored_in_image, sum_change, sum_of, sum_when, word_programmed}
use Rattle.ssd_histories.specs.PastRows.{serial_of}
use Rattle.ssd_histories.specs.Ranges.{has_place, is_in_range}
use Rattle.ssd_histories.specs.Standing.{IsStart}
use Rattle.ssd_histories.specs.Start.{Start, cells_at_start, data_of}
use Rattle.ssd_histories.proofs.UsedSlots.{of_some}
use Rattle.chan_fits.proofs.PlacesInRange.{place_in_range}
use Rattle.ldpc_encode.proofs.Bytes.{length-bytes_of}
use Rattle.recovery_laws.proofs.WordData.{whole_bytes}
use Rattle.channel_ends.proofs.Recovered.{Each, recovered_has}
use Rattle.channel_ends.proofs.WholeWords.{IsCode, IsLong, IsWhole, encoded_is_whole, makes_whole, needed, no_sum_is_whole, sum_is_whole}

turned : (a q : ℕ) → a * (8 * q) ≡ 8 * (a * q)
turned a q = omega arith

each_pushed : (P : List ℕ → Type 0) (words : List (List ℕ)) (word : List ℕ) → Each P words → P word → Each P (words ++ word ∷ [])
each_pushed P [] word h last = (last, tt)
each_pushed P (first ∷ words) word h last = (h.0, each_pushed P words word h.1 last)

-- what stands in a page has so many levels
abbrev pub HasLevels : ℕ → Option (List ℤ) → Type 0
HasLevels cells None = ⊤
HasLevels cells (Some levels) = length levels ≡ cells

abbrev pub HasCells : ℕ → Option StoredPage → Type 0
HasCells cells None = ⊤
HasCells cells (Some page) = length page.levels ≡ cells

in_pages : (cells : ℕ) (pages : List (List ℤ)) (k : ℕ) → All (λ (levels : List ℤ). length levels ≡ cells) pages
    → HasCells cells (option_map stored_in_image (slice_get pages k))
in_pages cells [] zero each = tt
in_pages cells [] (suc k) each = tt
in_pages cells (first ∷ pages) zero each = each 0 [] (omega arith)
in_pages cells (first ∷ pages) (suc k) each = in_pages cells pages k (λ i d below. each (suc i) d (omega (arith, below)))

pub from_pages : (cells : ℕ) (pages : List (List ℤ)) (k : ℕ) (d : List ℤ) → k < length pages → HasLevels cells (slice_get pages k)
    → length (get_or pages k d) ≡ cells
from_pages cells [] k d below h = absurd (omega (arith, below))
from_pages cells (first ∷ pages) zero d below h = h
from_pages cells (first ∷ pages) (suc k) d below h = from_pages cells pages k d (omega (arith, below)) h

pub levels_have : (cells : ℕ) (page : Option StoredPage) → HasCells cells page
    → HasLevels cells (option_map (λ (stored : StoredPage). stored.levels) page)
levels_have cells None h = h
levels_have cells (Some page) h = h

module _ (start : Start) (contents : List (Tag × List ℕ)) (is : IsStart start) where
  abbrev coding : Coding
  coding = coding_of start.base

  abbrev cells : ℕ
  cells = page_cells_of (sizes_of start.base.shape)

  abbrev Long : List ℕ → Type 0
  Long = IsLong start.base is.fields

  abbrev Whole : List ℕ → Type 0
  Whole = IsWhole start.base is.fields

  cells_are : cells ≡ 8 * word_bytes_of (sizes_of start.base.shape)
  cells_are =
      ap (λ (bits : ℕ). start.base.shape.words * bits)
      (whole_bytes (start.base.shape.nb * start.base.shape.z) start.base.shape.within.whole_word_bytes)
      ∙ turned start.base.shape.words (start.base.shape.nb * start.base.shape.z / 8)

  -- what is known after a past
  pub record AreWhole (past : List Entry) : Type 0 where
    pub pages : (place : Place) → IsTrue (has_place start.base.shape place) → HasCells cells (page_of coding start contents past place)
    pub senses : (at : ℕ) → Each Long (senses_of coding start contents past at)
    pub sums : (sb stripe : ℕ) → Whole (sum_of coding start contents past sb stripe)

  sum_at_start : (some : Bool) → Whole (elim some [ true ↦ start.base.sum | false ↦ zero_word (word_bytes_of (sizes_of start.base.shape)) ])
  sum_at_start true = record { long = is.sum_bytes; codewords = is.sum_codewords }
  sum_at_start false = no_sum_is_whole start.base is.fields

  at_start : AreWhole []
  at_start = record {
    pages = λ place range.
        let there = place_in_range start.base.shape place range in
        in_pages cells (cells_at_start start place.die place.sb).pages place.page
        (is.blocks_due place.die place.sb there.die there.superblock).whole;
    senses = λ at. tt;
    sums = λ sb stripe. sum_at_start (is_open_in_image start.base sb stripe);
  }

  abbrev word_of_entry : List Entry → Tag → Kind → List ℕ
  word_of_entry past tag kind = word_programmed coding start contents (senses_of coding start contents past) past tag kind

  fresh_cells : (past : List Entry) (place : Place) (word : List ℕ) → Long word
      → length (fresh_page start.base past place word).levels ≡ cells
  fresh_cells past place word long =
      let base : ChannelBase = start.base in
      let number : ℕ = number_of_page base.shape.dies base.shape.superblocks base.shape.pages base.channel place.die place.sb place.page in
      length-map-range_with_len (fresh_level base.law (start_of_program base.law.seed number (erases_of base past place.sb)) word) 0 (8 * length word)
      ∙ ap (λ (bytes : ℕ). 8 * bytes) long ∙ sym cells_are

  aged_cells : (amount : ℕ) (page : Option StoredPage) → HasCells cells page → HasCells cells (option_map (aged_page start.base amount) page)
  aged_cells amount None h = h
  aged_cells amount (Some page) h = length-map page.levels (aged_level start.base.law.erased amount) ∙ h

  -- a page after an entry that programs this word
  page_left : (past : List Entry) (place : Place) (word : List ℕ) (change : PageChange) → Whole word → AreWhole past
      → HasCells cells (page_of coding start contents past place)
      → HasCells cells (elim change [
        | programs ↦ Some (fresh_page start.base past place word)
        | programs_parity slot ↦ Some (fresh_page start.base past place
            (bytes_sum word (sum_of coding start contents past slot.sb (stripe_of_index start.base.shape.dies slot.index))))
        | empties ↦ None
        | ages amount ↦ option_map (aged_page start.base amount) (page_of coding start contents past place)
        | leaves ↦ page_of coding start contents past place
      ])
  page_left past place word programs made whole before = fresh_cells past place word made.long
  page_left past place word (programs_parity slot) made whole before =
      let sum : List ℕ = sum_of coding start contents past slot.sb (stripe_of_index start.base.shape.dies slot.index) in
      let own : Whole sum = whole.sums slot.sb (stripe_of_index start.base.shape.dies slot.index) in
      fresh_cells past place (bytes_sum word sum) (sum_is_whole start.base is.fields word sum made own).long
  page_left past place word empties made whole before = tt
  page_left past place word (ages amount) made whole before = aged_cells amount (page_of coding start contents past place) before
  page_left past place word leaves made whole before = before

  -- the word that a copy programs
  copied : (past : List Entry) (at : ℕ) → AreWhole past → IsTrue (is_recovered (ladder_of coding start contents past at))
      → Whole (word_recovered (ladder_over coding start.base.shape.dies (look_of past at) (senses_of coding start contents past at)))
  copied past at whole recovered =
      recovered_has coding Long (IsCode start.base is.fields) Whole (makes_whole start.base is.fields)
      start.base.shape.dies (look_of past at) (senses_of coding start contents past at) (whole.senses at) recovered

  -- what is known of the word that an entry programs, if it programs one
  abbrev WordIsWhole : List Entry → Tag → Kind → Type 0
  WordIsWhole past tag (Kind.Write row slot) = Whole (word_of_entry past tag (Kind.Write row slot))
  WordIsWhole past tag (Kind.BadWrite row slot die fault) = Whole (word_of_entry past tag (Kind.BadWrite row slot die fault))
  WordIsWhole past tag (Kind.Move at slot) = Whole (word_of_entry past tag (Kind.Move at slot))
  WordIsWhole past tag (Kind.BadCopy at slot die fault) = Whole (word_of_entry past tag (Kind.BadCopy at slot die fault))
  WordIsWhole past tag kind = ⊤

  word_is_whole : (past : List Entry) (tag : Tag) (kind : Kind) → AreWhole past
      → IsLawfulKind (ladder_of coding start contents past) start.base past tag kind → WordIsWhole past tag kind
  word_is_whole past tag (Kind.Write row slot) whole lawful =
      encoded_is_whole start.base is.fields (serial_of start.base.session tag) row (data_of contents tag)
  word_is_whole past tag (Kind.BadWrite row slot die fault) whole lawful =
      encoded_is_whole start.base is.fields (serial_of start.base.session tag) row (data_of contents tag)
  word_is_whole past tag (Kind.Move at slot) whole lawful =
      copied past at whole
      (of_some (open_look past tag at) (λ look. IsLawfulMove (ladder_of coding start contents past at) start.base past look slot)
      (λ look move. move.may_copy.is_recovered) lawful)
  word_is_whole past tag (Kind.BadCopy at slot die fault) whole lawful =
      copied past at whole
      (of_some (open_look past tag at) (λ look. IsLawfulBadCopy (ladder_of coding start contents past at) start.base past look slot die fault)
      (λ look copy. copy.may_copy.is_recovered) lawful)
  word_is_whole past tag kind whole lawful = tt

  -- a page after an entry
  abbrev page_after : List Entry → Tag → Kind → Place → PageChange → Option StoredPage
  page_after past tag kind place change = elim change [
    | programs ↦ Some (fresh_page start.base past place (word_of_entry past tag kind))
    | programs_parity slot ↦ Some (fresh_page start.base past place
        (bytes_sum (word_of_entry past tag kind) (sum_of coding start contents past slot.sb (stripe_of_index start.base.shape.dies slot.index))))
    | empties ↦ None
    | ages amount ↦ option_map (aged_page start.base amount) (page_of coding start contents past place)
    | leaves ↦ page_of coding start contents past place
  ]

  emptied : (past : List Entry) (tag : Tag) (kind : Kind) (place : Place) (b : Bool) → HasCells cells (page_of coding start contents past place)
      → HasCells cells (page_after past tag kind place (change_when b empties))
  emptied past tag kind place true before = tt
  emptied past tag kind place false before = before

  aged : (past : List Entry) (tag : Tag) (kind : Kind) (place : Place) (b : Bool) (amount : ℕ)
      → HasCells cells (page_of coding start contents past place)
      → HasCells cells (page_after past tag kind place (change_when b (ages amount)))
  aged past tag kind place true amount before = aged_cells amount (page_of coding start contents past place) before
  aged past tag kind place false amount before = before

  page_step : (past : List Entry) (tag : Tag) (kind : Kind) (place : Place) → AreWhole past → WordIsWhole past tag kind
      → HasCells cells (page_of coding start contents past place)
      → HasCells cells (page_after past tag kind place (page_change start.base.shape.dies kind place))
  page_step past tag (Kind.Write row slot) place whole made before =
      page_left past place (word_of_entry past tag (Kind.Write row slot)) (page_change start.base.shape.dies (Kind.Write row slot) place) made whole before
  page_step past tag (Kind.BadWrite row slot die fault) place whole made before =
      page_left past place (word_of_entry past tag (Kind.BadWrite row slot die fault))
      (page_change start.base.shape.dies (Kind.BadWrite row slot die fault) place) made whole before
  page_step past tag (Kind.Move at slot) place whole made before =
      page_left past place (word_of_entry past tag (Kind.Move at slot)) (page_change start.base.shape.dies (Kind.Move at slot) place) made whole before
  page_step past tag (Kind.BadCopy at slot die fault) place whole made before =
      page_left past place (word_of_entry past tag (Kind.BadCopy at slot die fault))
      (page_change start.base.shape.dies (Kind.BadCopy at slot die fault) place) made whole before
  page_step past tag (Kind.Erase sb) place whole made before = emptied past tag (Kind.Erase sb) place (place.sb == sb) before
  page_step past tag (Kind.BadErase sb die fault) place whole made before =
      emptied past tag (Kind.BadErase sb die fault) place (place.sb == sb && nat_lt place.die die) before
  page_step past tag (Kind.Age die sb amount) place whole made before =
      aged past tag (Kind.Age die sb amount) place (place.die == die && place.sb == sb) amount before
  page_step past tag kind place whole made before = before

  -- a sum after an entry
  abbrev sum_after : List Entry → Tag → Kind → ℕ → ℕ → SumChange → List ℕ
  sum_after past tag kind sb stripe change = elim change [
    | adds ↦ bytes_sum (word_of_entry past tag kind) (sum_of coding start contents past sb stripe)
    | clears ↦ zero_word coding.word_bytes
    | keeps ↦ sum_of coding start contents past sb stripe
  ]

  added : (past : List Entry) (tag : Tag) (kind : Kind) (sb stripe : ℕ) (b : Bool) → Whole (word_of_entry past tag kind)
      → Whole (sum_of coding start contents past sb stripe) → Whole (sum_after past tag kind sb stripe (sum_when b adds))
  added past tag kind sb stripe true made before =
      sum_is_whole start.base is.fields (word_of_entry past tag kind) (sum_of coding start contents past sb stripe) made before
  added past tag kind sb stripe false made before = before

  cleared : (past : List Entry) (tag : Tag) (kind : Kind) (sb stripe : ℕ) (b : Bool)
      → Whole (sum_of coding start contents past sb stripe) → Whole (sum_after past tag kind sb stripe (sum_when b clears))
  cleared past tag kind sb stripe true before = no_sum_is_whole start.base is.fields
  cleared past tag kind sb stripe false before = before

  sum_step : (past : List Entry) (tag : Tag) (kind : Kind) (sb stripe : ℕ) → WordIsWhole past tag kind
      → Whole (sum_of coding start contents past sb stripe)
      → Whole (sum_after past tag kind sb stripe (sum_change start.base.shape.dies sb stripe kind))
  sum_step past tag (Kind.Write row slot) sb stripe made before = added past tag (Kind.Write row slot) sb stripe _ made before
  sum_step past tag (Kind.BadWrite row slot die fault) sb stripe made before =
      added past tag (Kind.BadWrite row slot die fault) sb stripe _ made before
  sum_step past tag (Kind.Move at slot) sb stripe made before = added past tag (Kind.Move at slot) sb stripe _ made before
  sum_step past tag (Kind.BadCopy at slot die fault) sb stripe made before =
      added past tag (Kind.BadCopy at slot die fault) sb stripe _ made before
  sum_step past tag (Kind.Erase named) sb stripe made before = cleared past tag (Kind.Erase named) sb stripe (named == sb) before
  sum_step past tag kind sb stripe made before = before

  -- senses after an entry
  sense_long : (level : ℤ) (page : Option StoredPage) → HasCells cells page → Long (sensed level (levels_in start.base page))
  sense_long level page h =
      let levels : List ℤ = levels_in start.base page in
      length-bytes_of (map (sensed_bit level) levels)
      ∙ ap (λ (bits : ℕ). (bits + 7) / 8) (length-map levels (sensed_bit level))
      ∙ needed (length levels) (word_bytes_of (sizes_of start.base.shape)) (long page h ∙ cells_are)
    where
      long : (of : Option StoredPage) → HasCells cells of → length (levels_in start.base of) ≡ cells
      long None e = length-replicate cells start.base.law.erased
      long (Some stored) e = e

  sense_step : (past : List Entry) (kind : Kind) (at : ℕ) → IsTrue (is_in_range start.base.shape kind) → AreWhole past
      → Each Long (elim (sense_for at kind) [
        | Some asked ↦ senses_of coding start contents past at
            ++ sensed asked.1 (levels_in start.base (page_of coding start contents past asked.0)) ∷ []
        | None ↦ senses_of coding start contents past at
      ])
  sense_step past (Kind.Sense named place level) at range whole = by_test (named == at)
    where
      by_test : (b : Bool) → Each Long (elim (elim b as (λ _. Option (Place × ℤ)) [ true ↦ Some (place, level) | false ↦ None ]) [
        | Some asked ↦ senses_of coding start contents past at
            ++ sensed asked.1 (levels_in start.base (page_of coding start contents past asked.0)) ∷ []
        | None ↦ senses_of coding start contents past at
      ])
      by_test true =
          each_pushed Long (senses_of coding start contents past at)
          (sensed level (levels_in start.base (page_of coding start contents past place))) (whole.senses at)
          (sense_long level (page_of coding start contents past place) (whole.pages place range))
      by_test false = whole.senses at
  sense_step past kind at range whole = whole.senses at

  pub pages_are_whole : (past : List Entry) → IsLawful start contents past → AreWhole past
  pages_are_whole [] lawful = at_start
  pages_are_whole (entry ∷ past) lawful =
      let before : AreWhole past = pages_are_whole past lawful.0 in
      let made : WordIsWhole past entry.tag entry.kind = word_is_whole past entry.tag entry.kind before lawful.1.meets in
      record {
        pages = λ place range. page_step past entry.tag entry.kind place before made (before.pages place range);
        senses = λ at. sense_step past entry.kind at lawful.1.in_range before;
        sums = λ sb stripe. sum_step past entry.tag entry.kind sb stripe made (before.sums sb stripe);
      }
