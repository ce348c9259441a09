-- What stands in a page, which levels have its cells, and what did the senses of a look give? The latest entry that
-- changed a page decides: a write programs the word of its call, a copy the word that its look's ladder recovered, the
-- last slot of a stripe also the stripe's sum at the parity place; an erase empties all pages of its blocks. A page that
-- no entry changed is as the image has it. Levels start fresh at each program and fall with each ageing. A
-- sense gives the bits of the levels at its position.
use Rattle.std.specs.Prelude.{ℕ, ◌-◌, ◌/◌, ◌%◌, ◌==◌, nat_lt, Bool, true, false, ◌&&◌, not, List, [], ◌∷◌, ◌++◌, map, Option, Some, None, option_map, ℤ}
use Rattle.ssd_geo.specs.Bits.{bytes_sum}
use Rattle.ssd_histories.specs.Blocks.{block_at, frontier_of}
use Rattle.ssd_geo.specs.Coding.{Coding, word_bytes_in}
use Rattle.ssd_geo.specs.Cells.{aged_level, fresh_levels, sensed}
use Rattle.ssd_histories.specs.History.{look_of}
use Rattle.ssd_geo.specs.Ladder.{LadderState, ladder_over, word_recovered}
use Rattle.ssd_geo.specs.Noise.{number_of_page}
use Rattle.ssd_histories.specs.PastBlocks.{blocks_of, erases_of, used_of}
use Rattle.ssd_histories.specs.PastRows.{serial_of}
use Rattle.ssd_histories.specs.Start.{Start, data_of, empty_levels, image_page}
use Rattle.ssd_histories.specs.States.{is_frontier}
use Rattle.ssd_geo.specs.StripeSum.{zero_word}
use Rattle.ssd_geo.specs.Stripe.{is_last_of_stripe, parity_die, place_of_parity, place_of_slot, stripe_of_index}
use Rattle.ssd_geo.specs.declared.base.ChannelBase.{ChannelBase}
use Rattle.ssd_geo.specs.declared.entry.Entry.{Entry}
use Rattle.ssd_geo.specs.declared.kind.Kind.{Kind}
use Rattle.ssd_geo.specs.declared.place.Place.{Place}
use Rattle.ssd_geo.specs.declared.slot.Slot.{Slot}
use Rattle.ssd_geo.specs.declared.tag.Tag.{Tag}

-- whether two places are one
abbrev pub is_place : Place → Place → Bool
is_place a b = a.die == b.die && a.sb == b.sb && a.page == b.page

-- what stands in a programmed page: its word, which isn't told of an image's page, and the levels of its cells
pub record StoredPage : Type 0 where
  pub word : Option (List ℕ)
  pub levels : List ℤ

-- a page as the image has it
abbrev pub stored_in_image : List ℤ → StoredPage
stored_in_image levels = record { word = None; levels = levels }

-- what an entry does to a page: it programs a slot's word there, or the sum of the stripe that a slot completes; it
-- empties it; it ages it by an amount; or it leaves it
pub data PageChange : Type 0 where
  programs : PageChange
  programs_parity : Slot → PageChange
  empties : PageChange
  ages : ℕ → PageChange
  leaves : PageChange

-- what the program of a slot does to a page: the parity goes with the last slot of a stripe
abbrev pub change_by_program : ℕ → Slot → Place → PageChange
change_by_program dies slot place =
    elim (is_place place (place_of_slot dies slot)) [
      | true ↦ programs
      | false ↦ elim (is_last_of_stripe dies slot.index && is_place place (place_of_parity dies slot.sb (stripe_of_index dies slot.index))) [
        | true ↦ programs_parity slot
        | false ↦ leaves
      ]
    ]

-- what a program that failed on a die does: where that is the parity's, the slot was programmed, and else nothing
abbrev pub change_by_failed : ℕ → Slot → ℕ → Place → PageChange
change_by_failed dies slot die place =
    elim (die == parity_die dies slot.sb (stripe_of_index dies slot.index) && is_place place (place_of_slot dies slot)) [
      | true ↦ programs
      | false ↦ leaves
    ]

-- the change that comes with a test
abbrev pub change_when : Bool → PageChange → PageChange
change_when true change = change
change_when false change = leaves

-- what an entry does to a page. A failed erase has emptied the blocks of the dies below the one that failed.
abbrev pub page_change : ℕ → Kind → Place → PageChange
page_change dies (Kind.Write row slot) place = change_by_program dies slot place
page_change dies (Kind.Move at slot) place = change_by_program dies slot place
page_change dies (Kind.BadWrite row slot die fault) place = change_by_failed dies slot die place
page_change dies (Kind.BadCopy at slot die fault) place = change_by_failed dies slot die place
page_change dies (Kind.Erase sb) place = change_when (place.sb == sb) empties
page_change dies (Kind.BadErase sb die fault) place = change_when (place.sb == sb && nat_lt place.die die) empties
page_change dies (Kind.Age die sb amount) place = change_when (place.die == die && place.sb == sb) (ages amount)
page_change dies _ place = leaves

-- what an entry does to the sum of a stripe's data words: a program of one of its slots adds a word, and an erase
-- begins anew
pub data SumChange : Type 0 where
  adds : SumChange
  clears : SumChange
  keeps : SumChange

-- the change that comes with a test
abbrev pub sum_when : Bool → SumChange → SumChange
sum_when true change = change
sum_when false change = keeps

-- whether a slot is one of a stripe
abbrev pub is_in_stripe : ℕ → ℕ → ℕ → Slot → Bool
is_in_stripe dies sb stripe slot = slot.sb == sb && stripe_of_index dies slot.index == stripe

-- whether a program of a slot that failed on a die has programmed a data word of a stripe
abbrev pub is_added_by_failed : ℕ → ℕ → ℕ → Slot → ℕ → Bool
is_added_by_failed dies sb stripe slot die = is_in_stripe dies sb stripe slot && die == parity_die dies sb stripe

-- what an entry does to the sum of a stripe
abbrev pub sum_change : ℕ → ℕ → ℕ → Kind → SumChange
sum_change dies sb stripe (Kind.Write row slot) = sum_when (is_in_stripe dies sb stripe slot) adds
sum_change dies sb stripe (Kind.Move at slot) = sum_when (is_in_stripe dies sb stripe slot) adds
sum_change dies sb stripe (Kind.BadWrite row slot die fault) = sum_when (is_added_by_failed dies sb stripe slot die) adds
sum_change dies sb stripe (Kind.BadCopy at slot die fault) = sum_when (is_added_by_failed dies sb stripe slot die) adds
sum_change dies sb stripe (Kind.Erase named) = sum_when (named == sb) clears
sum_change dies sb stripe _ = keeps

-- whether a stripe was open in the image: it is the frontier's, with some of its slots used
abbrev pub is_open_in_image : ChannelBase → ℕ → ℕ → Bool
is_open_in_image base sb stripe =
    let block = block_at base.blocks sb in
    is_frontier block.state && block.used / (base.shape.dies - 1) == stripe && not (block.used % (base.shape.dies - 1) == 0)

-- the sum of a stripe's data words before the first entry
abbrev pub sum_in_image : ChannelBase → ℕ → ℕ → List ℕ
sum_in_image base sb stripe =
    elim (is_open_in_image base sb stripe) [ true ↦ base.sum | false ↦ zero_word (word_bytes_in base.shape) ]

-- the level at which an entry senses for a look, and the place, if it does
abbrev pub sense_for : ℕ → Kind → Option (Place × ℤ)
sense_for at (Kind.Sense named place level) = elim (named == at) [ true ↦ Some (place, level) | false ↦ None ]
sense_for at _ = None

-- the page that a program leaves, with the noise of its place and of the erases of its superblock
abbrev pub fresh_page : ChannelBase → List Entry → Place → List ℕ → StoredPage
fresh_page base past place word = record {
  word = Some word;
  levels =
      fresh_levels base.law
      (number_of_page base.shape.dies base.shape.superblocks base.shape.pages base.channel place.die place.sb place.page)
      (erases_of base past place.sb)
      word;
}

-- a page after ageing
abbrev pub aged_page : ChannelBase → ℕ → StoredPage → StoredPage
aged_page base amount page = record { word = page.word; levels = map (aged_level base.law.erased amount) page.levels }

-- the levels of a page: the erased one in each cell of an empty page
abbrev pub levels_in : ChannelBase → Option StoredPage → List ℤ
levels_in base None = empty_levels base
levels_in base (Some page) = page.levels

-- the word that an entry programs: that of its call's data for a write, the one that its look's ladder recovered for a
-- copy. The senses of a look are handed in, by its position.
abbrev pub word_programmed : Coding → Start → List (Tag × List ℕ) → (ℕ → List (List ℕ)) → List Entry → Tag → Kind → List ℕ
word_programmed coding start contents senses past tag (Kind.Write row slot) =
    coding.encoded (serial_of start.base.session tag) row (data_of contents tag)
word_programmed coding start contents senses past tag (Kind.BadWrite row slot die fault) =
    coding.encoded (serial_of start.base.session tag) row (data_of contents tag)
word_programmed coding start contents senses past tag (Kind.Move at slot) =
    word_recovered (ladder_over coding start.base.shape.dies (look_of past at) (senses at))
word_programmed coding start contents senses past tag (Kind.BadCopy at slot die fault) =
    word_recovered (ladder_over coding start.base.shape.dies (look_of past at) (senses at))
word_programmed coding start contents senses past tag _ = []

abbrev mutual
  -- what stands in a page, where it is programmed
  pub page_of : Coding → Start → List (Tag × List ℕ) → List Entry → Place → Option StoredPage
  page_of coding start contents [] place = option_map stored_in_image (image_page start place)
  page_of coding start contents (entry ∷ past) place =
      elim (page_change start.base.shape.dies entry.kind place) [
        | programs ↦ Some (fresh_page start.base past place
            (word_programmed coding start contents (senses_of coding start contents past) past entry.tag entry.kind))
        | programs_parity slot ↦ Some (fresh_page start.base past place
            (bytes_sum (word_programmed coding start contents (senses_of coding start contents past) past entry.tag entry.kind)
            (sum_of coding start contents past slot.sb (stripe_of_index start.base.shape.dies slot.index))))
        | empties ↦ None
        | ages amount ↦ option_map (aged_page start.base amount) (page_of coding start contents past place)
        | leaves ↦ page_of coding start contents past place
      ]

  -- what the senses of the look that began at a position gave, in order
  pub senses_of : Coding → Start → List (Tag × List ℕ) → List Entry → ℕ → List (List ℕ)
  senses_of coding start contents [] at = []
  senses_of coding start contents (entry ∷ past) at =
      elim (sense_for at entry.kind) [
        | Some asked ↦ senses_of coding start contents past at
            ++ sensed asked.1 (levels_in start.base (page_of coding start contents past asked.0)) ∷ []
        | None ↦ senses_of coding start contents past at
      ]

  -- the sum of the data words of a stripe, since the latest erase of its superblock
  pub sum_of : Coding → Start → List (Tag × List ℕ) → List Entry → ℕ → ℕ → List ℕ
  sum_of coding start contents [] sb stripe = sum_in_image start.base sb stripe
  sum_of coding start contents (entry ∷ past) sb stripe =
      elim (sum_change start.base.shape.dies sb stripe entry.kind) [
        | adds ↦ bytes_sum (word_programmed coding start contents (senses_of coding start contents past) past entry.tag entry.kind)
            (sum_of coding start contents past sb stripe)
        | clears ↦ zero_word coding.word_bytes
        | keeps ↦ sum_of coding start contents past sb stripe
      ]

-- the word that stands in a page: none in an empty one, and an image's isn't told
abbrev pub word_of_page : Option StoredPage → Option (List ℕ)
word_of_page None = None
word_of_page (Some page) = page.word

-- the levels of a page's cells
abbrev pub levels_of : Coding → Start → List (Tag × List ℕ) → List Entry → Place → List ℤ
levels_of coding start contents past place = levels_in start.base (page_of coding start contents past place)

-- what a sense of a page at a level gives
abbrev pub sense_of : Coding → Start → List (Tag × List ℕ) → List Entry → Place → ℤ → List ℕ
sense_of coding start contents past place level = sensed level (levels_of coding start contents past place)

-- what the ladder of the look that began at a position has come to
abbrev pub ladder_of : Coding → Start → List (Tag × List ℕ) → List Entry → ℕ → LadderState
ladder_of coding start contents past at =
    ladder_over coding start.base.shape.dies (look_of past at) (senses_of coding start contents past at)

-- the running sum of a channel: that of the data words of the frontier's open stripe, or zeros where no stripe is open
abbrev pub sum_of_open : Coding → Start → List (Tag × List ℕ) → List Entry → ℕ → List ℕ
sum_of_open coding start contents past sb =
    let used = used_of start.base past sb in
    elim (used % (start.base.shape.dies - 1) == 0) [
      | true ↦ zero_word coding.word_bytes
      | false ↦ sum_of coding start contents past sb (used / (start.base.shape.dies - 1))
    ]

abbrev pub running_sum : Coding → Start → List (Tag × List ℕ) → List Entry → List ℕ
running_sum coding start contents past =
    elim (frontier_of (blocks_of start.base past)) [
      | Some sb ↦ sum_of_open coding start contents past sb
      | None ↦ zero_word coding.word_bytes
    ]
