-- The page that a row names is read from the first sense of a look: the ladder asks for it, and recovers the page with it.
use Rattle.std.proofs.Common.{◌≡◌, ℕ, suc, ◌≤◌, ◌==◌, Bool, true, false, List, [], ◌∷◌, ◌++◌, length, refl, ap, sym, ◌∙◌, Option, Some, None, ℤ, arith}
use Rattle.std.specs.Prelude.{option_map, slice_get}
use Rattle.std.proofs.lemmas.Bool.Decides.{nat_tests}
use Rattle.ssd_geo.specs.declared.entry.Entry.{Entry}
use Rattle.ssd_geo.specs.declared.look.Look.{Look}
use Rattle.ssd_geo.specs.declared.place.Place.{Place}
use Rattle.ssd_geo.specs.declared.slot.Slot.{Slot}
use Rattle.ssd_geo.specs.declared.tag.Tag.{Tag}
use Rattle.ssd_geo.specs.Cells.{sensed}
use Rattle.ssd_geo.specs.Coding.{Coding, coding_of}
use Rattle.ssd_histories.specs.History.{look_of}
use Rattle.ssd_geo.specs.Ladder.{all_kept, asks, kept_with, ladder_over, none_kept, other_places, recovered}
use Rattle.ssd_histories.specs.PastPages.{ladder_of, levels_in, page_of, senses_of, word_of_page}
use Rattle.ssd_histories.specs.PlainMap.{IsRecoveredPage, bytes}
use Rattle.ssd_histories.specs.Replies.{bytes_of_word}
use Rattle.ssd_histories.specs.Start.{Start}
use Rattle.ssd_geo.specs.Stripe.{place_of_slot}
use Rattle.run_laws.specs.FirstSenses.{PagesAreReadAtOnce, ReadsBack, WordIsRead, after_sense, first_sense}
use Rattle.ssd_histories.specs.ServedCalls.{after_look}
use Rattle.run_laws.proofs.FirstLadders.{asks_first, recovers_first}
use Rattle.run_laws.proofs.LookSenses.{none_sensed}
use Rattle.run_laws.proofs.CopiedPages.{copies_are_recovered}
use Rattle.run_laws.proofs.FreshCells.{HasFreshCells, told_words_are_fresh}
use Rattle.recovery_laws.proofs.RecoveredReads.{plain_is_data}
use Rattle.recovery_laws.proofs.RowWords.{rows_have_words}
use Rattle.recovery_laws.proofs.SettledLadders.{recovered_find}
use Rattle.recovery_laws.specs.RecoveredReads.{IsWrittenPast}
use Rattle.ssd_histories.specs.LastWrites.{IsData}

-- the look of a read
abbrev read_look : ℕ → Slot → ℕ → Bool → List Entry → Look
read_look row slot serial closed past = record { at = length past; row = row; slot = slot; serial = serial; closed = closed }

-- it is found at its position, and after its sense too
look_here : (tag : Tag) (row : ℕ) (slot : Slot) (serial : ℕ) (closed : Bool) (past : List Entry) → look_of (after_look tag row slot serial closed past) (length past) ≡ Some (read_look row slot serial closed past)
look_here tag row slot serial closed past = by_test (length past == length past) _ (same (length past))
  where
    same : (n : ℕ) → (n == n) ≡ true
    same n = grind (arith, nat_tests)

    by_test : (b : Bool) (other : Option Look) → b ≡ true → ◌≡◌ {A = Option Look} (elim b [ true ↦ Some (read_look row slot serial closed past) | false ↦ other ]) (Some (read_look row slot serial closed past))
    by_test b other e = rw e refl

look_before_sense : (dies : ℕ) (tag : Tag) (row : ℕ) (slot : Slot) (serial : ℕ) (closed : Bool) (level : ℤ) (past : List Entry)
    → look_of (after_sense dies tag row slot serial closed level past) (length past) ≡ look_of (after_look tag row slot serial closed past) (length past)
look_before_sense dies tag row slot serial closed level past = by_test (length (after_look tag row slot serial closed past) == length past) _ _ (above (length past))
  where
    above : (n : ℕ) → (suc n == n) ≡ false
    above n = grind (arith, nat_tests)

    by_test : (b : Bool) (here before : Option Look) → b ≡ false → ◌≡◌ {A = Option Look} (elim b [ true ↦ here | false ↦ before ]) before
    by_test b here before e = rw e refl

-- the sense of a look is the first of its senses
one_sense : (coding : Coding) (start : Start) (contents : List (Tag × List ℕ)) (tag : Tag) (row : ℕ) (slot : Slot) (serial : ℕ) (closed : Bool) (level : ℤ) (past : List Entry)
    → senses_of coding start contents past (length past) ≡ []
    → senses_of coding start contents (after_sense start.base.shape.dies tag row slot serial closed level past) (length past)
    ≡ sensed level (levels_in start.base (page_of coding start contents past (place_of_slot start.base.shape.dies slot))) ∷ []
one_sense coding start contents tag row slot serial closed level past none =
    by_test (length past == length past) (same (length past)) ∙ ap (λ (senses : List (List ℕ)). senses ++ sense ∷ []) none
  where
    same : (n : ℕ) → (n == n) ≡ true
    same n = grind (arith, nat_tests)

    sense : List ℕ
    sense = sensed level (levels_in start.base (page_of coding start contents past (place_of_slot start.base.shape.dies slot)))

    by_test : (b : Bool) → b ≡ true
        → ◌≡◌ {A = List (List ℕ)} (elim (elim b as (λ (b : Bool). Option (Place × ℤ)) [ true ↦ Some (place_of_slot start.base.shape.dies slot, level) | false ↦ None ]) [
          | Some asked ↦ senses_of coding start contents past (length past) ++ sensed asked.1 (levels_in start.base (page_of coding start contents past asked.0)) ∷ []
          | None ↦ senses_of coding start contents past (length past)
        ])
        (senses_of coding start contents past (length past) ++ sensed level (levels_in start.base (page_of coding start contents past (place_of_slot start.base.shape.dies slot))) ∷ [])
    by_test b e = rw e refl

-- so its ladder asks for its page at the first read level
look_asks : (coding : Coding) (start : Start) (contents : List (Tag × List ℕ)) (tag : Tag) (row : ℕ) (slot : Slot) (serial : ℕ) (closed : Bool) (level : ℤ) (past : List Entry)
    → slice_get coding.levels 0 ≡ Some level → senses_of coding start contents past (length past) ≡ []
    → ladder_of coding start contents (after_look tag row slot serial closed past) (length past) ≡ asks (place_of_slot start.base.shape.dies slot) level
look_asks coding start contents tag row slot serial closed level past is_first none =
    let dies : ℕ = start.base.shape.dies in
    let place : Place = place_of_slot dies slot in
    ap (λ (look : Option Look). ladder_over coding dies look (senses_of coding start contents past (length past))) (look_here tag row slot serial closed past)
    ∙ ap (λ (senses : List (List ℕ)). ladder_over coding dies (Some (read_look row slot serial closed past)) senses) none
    ∙ asks_first coding (coding.has_head serial row) place (other_places dies place) closed level is_first

-- and recovers it with the word that the sense gives
sense_recovers : (coding : Coding) (start : Start) (contents : List (Tag × List ℕ)) (tag : Tag) (row : ℕ) (slot : Slot) (serial : ℕ) (closed : Bool) (level : ℤ) (past : List Entry) (word : List ℕ)
    → slice_get coding.levels 0 ≡ Some level → senses_of coding start contents past (length past) ≡ []
    → sensed level (levels_in start.base (page_of coding start contents past (place_of_slot start.base.shape.dies slot))) ≡ word
    → option_map coding.joined (all_kept (kept_with (coding.hard word) 0 (none_kept coding))) ≡ Some word → coding.has_head serial row word ≡ true
    → ladder_of coding start contents (after_sense start.base.shape.dies tag row slot serial closed level past) (length past) ≡ recovered 0 word
sense_recovers coding start contents tag row slot serial closed level past word is_first none sense_is is_found has_head =
    let dies : ℕ = start.base.shape.dies in
    let place : Place = place_of_slot dies slot in
    let after : List Entry = after_sense dies tag row slot serial closed level past in
    ap (λ (look : Option Look). ladder_over coding dies look (senses_of coding start contents after (length past)))
    (look_before_sense dies tag row slot serial closed level past ∙ look_here tag row slot serial closed past)
    ∙ ap (λ (senses : List (List ℕ)). ladder_over coding dies (Some (read_look row slot serial closed past)) senses)
    (one_sense coding start contents tag row slot serial closed level past none ∙ ap (λ (sense : List ℕ). sense ∷ []) sense_is)
    ∙ recovers_first coding (coding.has_head serial row) place (other_places dies place) closed level word word [] is_first is_found has_head

pub pages_are_read : PagesAreReadAtOnce
pages_are_read start contents past tag row slot serial closed data_bytes unaged lt is plain =
    let coding : Coding = coding_of start.base in
    let written : IsWrittenPast start contents past = unaged.is_written in
    let reads : ReadsBack start.base = unaged.reads_back in
    let place : Place = place_of_slot start.base.shape.dies slot in
    let stands : word_of_page (page_of coding start contents past place) ≡ Some (coding.encoded serial row data_bytes) =
    rows_have_words coding start contents (IsRecoveredPage coding start contents past) past row written.has_named_pages.has_due_pages
    written.has_named_pages.rows_name_used written.is_lawful (recovered_find coding start contents past) lt slot serial data_bytes
    is (copies_are_recovered start contents past unaged row data_bytes lt plain) plain in
    let fresh : HasFreshCells start.base (coding.encoded serial row data_bytes) (page_of coding start contents past place) =
    told_words_are_fresh coding start contents past place (coding.encoded serial row data_bytes) unaged.no_ageing stands in
    let is_data : IsData start.base.shape.bytes data_bytes =
    plain_is_data start.base contents row data_bytes past written.write_data plain in
    let read : WordIsRead start.base reads.level serial row data_bytes = reads.words serial row data_bytes is_data in
    let none : senses_of coding start contents past (length past) ≡ [] =
    none_sensed (ladder_of coding start contents) coding start contents past (length past) written.is_lawful (same_length (length past)) in
    let sense_is : first_sense start contents tag row slot serial closed reads.level past ≡ coding.encoded serial row data_bytes =
    ap (sensed reads.level) fresh.levels_are ∙ read.sense_is fresh.number fresh.erases in
    record {
      level = reads.level;
      is_first = reads.is_first;
      asks_first = look_asks coding start contents tag row slot serial closed reads.level past reads.is_first none;
      is_recovered =
          sense_recovers coding start contents tag row slot serial closed reads.level past (coding.encoded serial row data_bytes)
          reads.is_first none sense_is read.is_found read.has_head
          ∙ ap (recovered 0) (sym sense_is);
      fails_none = ap (coding.failed) sense_is ∙ read.fails_none;
      has_head = ap (coding.has_head serial row) sense_is ∙ read.has_head;
      is_plain = plain ∙ ap bytes (sym (ap (bytes_of_word start.base.shape.bytes) sense_is ∙ read.has_data));
    }
  where
    same_length : (n : ℕ) → n ≤ n
    same_length n = omega arith
