-- The dies and the running sum fit a past after the next slot was programmed: after a write, and after a copy.
use Rattle.std.proofs.Common.{◌≡◌, ◌≢◌, ℕ, Bool, true, false, List, ◌∷◌, length, refl, sym, ◌∙◌, subst, Some, IsTrue, inl, inr}
use Rattle.std.specs.Prelude.{if◌then◌else◌, nat_lt}
use Rattle.std.proofs.lemmas.Bool.{cases_eq}
use Rattle.ssd_geo.specs.Bits.{bytes_sum}
use Rattle.ssd_geo.specs.Coding.{coding_of, word_bytes_in}
use Rattle.ssd_geo.specs.Ladder.{LadderState, word_recovered}
use Rattle.ssd_geo.specs.Stripe.{is_last_of_stripe}
use Rattle.ssd_geo.specs.StripeSum.{zero_word}
use Rattle.ssd_geo.specs.declared.base.BlockBase.{BlockBase}
use Rattle.ssd_geo.specs.declared.entry.Entry.{Entry}
use Rattle.ssd_geo.specs.declared.kind.Kind.{Kind}
use Rattle.ssd_geo.specs.declared.place.Place.{Place}
use Rattle.ssd_geo.specs.declared.slot.Slot.{Slot}
use Rattle.ssd_geo.specs.declared.tag.Tag.{Tag}
use Rattle.ssd_histories.specs.BlockLaws.{AtMostOne}
use Rattle.ssd_histories.specs.Blocks.{with_next_used}
use Rattle.ssd_histories.specs.History.{open_look}
use Rattle.ssd_histories.specs.Lawful.{IsLawfulBy, IsLawfulMove}
use Rattle.ssd_histories.specs.PastBlocks.{block_of, blocks_of, slots_in}
use Rattle.ssd_histories.specs.PastPages.{change_by_program, ladder_of}
use Rattle.ssd_histories.specs.PastRows.{serial_of}
use Rattle.ssd_histories.specs.Ranges.{has_place, has_slot}
use Rattle.ssd_histories.specs.Room.{next_slot}
use Rattle.ssd_histories.specs.Standing.{IsStart}
use Rattle.ssd_histories.specs.Start.{Start, data_of}
use Rattle.ssd_histories.specs.States.{is_frontier}
use Rattle.ssd_histories.proofs.BlockSteps.{blocks_after_entry}
use Rattle.ssd_histories.proofs.OneOfEach.{one_frontier}
use Rattle.ssd_histories.proofs.UsedSlots.{made, of_some, second_holds}
use Rattle.std.proofs.lemmas.List.FromFn.{length-map-range_with_len}
use Rattle.onfi_cmd.specs.DieState.{DieState}
use Rattle.chan_dies.specs.DiesState.{die_at}
use Rattle.chan_dies.specs.Programming.{IsProgrammed, PutsAt, page_of_slot, parity_of_slot, sum_after}
use Rattle.chan_dies.specs.declared.ends.ProgramEnd.{ProgramEnd}
use Rattle.chan_fits.specs.DiesFit.{AreDue, DiesFit, told_page}
use Rattle.chan_fits.proofs.BlockChanges.{apart}
use Rattle.chan_fits.proofs.DueAfter.{due_programmed}
use Rattle.chan_fits.proofs.DueDies.{has_next_pages}
use Rattle.chan_fits.proofs.Frontiers.{one_at_start}
use Rattle.chan_fits.proofs.ProgramPages.{MayProgram, changed_levels, program_pages}
use Rattle.chan_fits.proofs.QuietFits.{StaysCounted, fits_counted, same_counted}
use Rattle.chan_fits.proofs.SumsAfter as Sums
use Rattle.chan_fits.proofs.WeakDies.{next_is_good}

-- as many superblocks as the channel has
pub blocks_number : (start : Start) (past : List Entry) → length (blocks_of start.base past) ≡ start.base.shape.superblocks
blocks_number start past = length-map-range_with_len (block_of start.base past) 0 start.base.shape.superblocks

-- what is known of the dies before a program of the next slot
pub may_program : (start : Start) (contents : List (Tag × List ℕ)) (past : List Entry) (slot : Slot) (old : List DieState)
    (sum : List ℕ)
    → next_slot start.base past ≡ Some slot → IsTrue (has_slot start.base.shape slot)
    → AreDue start.base.shape (blocks_of start.base past) old
    → DiesFit start contents past old sum → MayProgram start contents past slot old sum
may_program start contents past slot old sum next range due fit = record {
  fit = fit;
  range = range;
  good = next_is_good start.base past slot next range;
  counts = due.blocks_count;
  next = has_next_pages start.base.shape (blocks_of start.base past) old slot due next range;
}

-- the plans and counts of all dies stay where the slot was programmed
pub programmed_counted : (start : Start) (slot : Slot) (word total : List ℕ) (old new : List DieState)
    → IsProgrammed start.base.shape slot word total old new
    → (die : ℕ) → StaysCounted (die_at old die) (die_at new die)
programmed_counted start slot word total old new is die = elim (cases_eq die (page_of_slot start.base.shape slot).die) [
  | inl here ↦ put_counted (page_of_slot start.base.shape slot) word here is.slot_page
  | inr other ↦ elim (cases_eq die (parity_of_slot start.base.shape slot).die) [
    | inl here ↦ by_last (is_last_of_stripe start.base.shape.dies slot.index) refl other here
    | inr far ↦ same_counted (die_at old die) (die_at new die) (is.others die other (λ last. far))
  ]
]
  where
    put_counted : (place : Place) (w : List ℕ) → die ≡ place.die → PutsAt place w old new
        → StaysCounted (die_at old die) (die_at new die)
    put_counted place w here puts =
        subst (λ (n : ℕ). StaysCounted (die_at old n) (die_at new n)) (sym here)
        (record { plan_stays = puts.holds.plan_stays; works_stay = puts.holds.works_stay; loads_stay = puts.holds.loads_stay })

    by_last : (b : Bool) → is_last_of_stripe start.base.shape.dies slot.index ≡ b
        → die ≢ (page_of_slot start.base.shape slot).die → die ≡ (parity_of_slot start.base.shape slot).die
        → StaysCounted (die_at old die) (die_at new die)
    by_last true last other here = put_counted (parity_of_slot start.base.shape slot) total here (is.parity_page last)
    by_last false e other here =
        same_counted (die_at old die) (die_at new die)
        (is.others die other (λ last. absurd (apart (is_last_of_stripe start.base.shape.dies slot.index) e last)))

-- the running sum after the program
sum_now : (start : Start) (contents : List (Tag × List ℕ)) (past : List Entry) (slot : Slot) (word sum : List ℕ) (last : Bool)
    → sum ≡ Sums.sum_at start contents past slot
    → ◌≡◌ {A = List ℕ} (if last then zero_word (word_bytes_in start.base.shape) else bytes_sum word sum)
    (Sums.sum_after_word start contents past slot word last)
sum_now start contents past slot word sum true sum_is = refl
sum_now start contents past slot word sum false sum_is = λ i. bytes_sum word (sum_is i)

-- the dies and the sum are those after a program of a word into the next slot
record FitWith (start : Start) (contents : List (Tag × List ℕ)) (past : List Entry) (tag : Tag) (row : ℕ) (slot : Slot)
    (word : List ℕ) (new : List DieState) (after : List ℕ) : Type 0 where
  pub pages : (place : Place) → IsTrue (has_place start.base.shape place)
      → told_page new place ≡ changed_levels start contents past word place (change_by_program start.base.shape.dies slot place)
  pub sums : after ≡ Sums.running_with start contents past tag row slot word

program_fits : (ladder : List Entry → ℕ → LadderState) (start : Start) (contents : List (Tag × List ℕ)) (past : List Entry)
    (tag : Tag) (row : ℕ) (slot : Slot) (word sum after : List ℕ) (old new : List DieState)
    → IsStart start → IsLawfulBy ladder start.base past → next_slot start.base past ≡ Some slot
    → IsTrue (has_slot start.base.shape slot)
    → AreDue start.base.shape (blocks_of start.base past) old
    → IsProgrammed start.base.shape slot word (bytes_sum word sum) old new
    → after ≡ sum_after start.base.shape slot (bytes_sum word sum) ProgramEnd.Programmed
    → DiesFit start contents past old sum → FitWith start contents past tag row slot word new after
program_fits ladder start contents past tag row slot word sum after old new is_start lawful next range due is after_is fit =
    let before : sum ≡ Sums.sum_at start contents past slot = fit.sum_is
    ∙ Sums.sum_before ladder start contents past slot lawful next range in
    let one : AtMostOne is_frontier start.base past =
    one_frontier ladder start.base past (one_at_start start is_start) lawful in
    record {
      pages = program_pages start contents past slot word sum old new
          (may_program start contents past slot old sum next range due fit) before is;
      sums =
          after_is ∙ sum_now start contents past slot word sum (is_last_of_stripe start.base.shape.dies slot.index) before
          ∙ sym (Sums.sum_after start contents past tag row slot word one next range);
    }

-- the table that is due after a program
due_after : (ladder : List Entry → ℕ → LadderState) (start : Start) (past : List Entry) (entry : Entry) (slot : Slot)
    (word total : List ℕ) (old new : List DieState)
    → next_slot start.base past ≡ Some slot → IsTrue (has_slot start.base.shape slot)
    → AreDue start.base.shape (blocks_of start.base past) old
    → blocks_of start.base (entry ∷ past) ≡ with_next_used (slots_in start.base) (blocks_of start.base past)
    → IsProgrammed start.base.shape slot word total old new → AreDue start.base.shape (blocks_of start.base (entry ∷ past)) new
due_after ladder start past entry slot word total old new next range due after is =
    subst (λ (blocks : List BlockBase). AreDue start.base.shape blocks new) (sym after)
    (due_programmed (slots_in start.base) start.base.shape (blocks_of start.base past) slot word total old new
    (blocks_number start past) next range is due)

-- after a lawful write of its call's word
pub write_fits : (ladder : List Entry → ℕ → LadderState) (start : Start) (contents : List (Tag × List ℕ)) (past : List Entry)
    (tag : Tag) (row : ℕ) (slot : Slot) (word sum after : List ℕ) (old new : List DieState)
    → IsStart start → IsLawfulBy ladder start.base (made tag (Kind.Write row slot) ∷ past)
    → word ≡ (coding_of start.base).encoded (serial_of start.base.session tag) row (data_of contents tag)
    → AreDue start.base.shape (blocks_of start.base past) old
    → IsProgrammed start.base.shape slot word (bytes_sum word sum) old new
    → after ≡ sum_after start.base.shape slot (bytes_sum word sum) ProgramEnd.Programmed
    → DiesFit start contents past old sum → DiesFit start contents (made tag (Kind.Write row slot) ∷ past) new after
write_fits ladder start contents past tag row slot word sum after old new is_start lawful word_is due is after_is fit =
    let next : next_slot start.base past ≡ Some slot = lawful.1.meets.is_programmed.is_next in
    let range : has_slot start.base.shape slot ≡ true =
    second_holds (nat_lt row start.base.shape.rows) (has_slot start.base.shape slot) lawful.1.in_range in
    let with_word : FitWith start contents past tag row slot
    ((coding_of start.base).encoded (serial_of start.base.session tag) row (data_of contents tag)) new after =
    subst (λ (w : List ℕ). FitWith start contents past tag row slot w new after) word_is
    (program_fits ladder start contents past tag row slot word sum after old new is_start lawful.0 next range due is after_is
    fit) in
    fits_counted start contents past (made tag (Kind.Write row slot)) old new sum after fit (λ die. refl)
    (λ die lt. programmed_counted start slot word (bytes_sum word sum) old new is die)
    with_word.pages
    (due_after ladder start past (made tag (Kind.Write row slot)) slot word (bytes_sum word sum) old new next range due
    (blocks_after_entry ladder start.base (made tag (Kind.Write row slot)) past lawful) is)
    with_word.sums

-- after a lawful copy of the word that its look's ladder recovered
pub move_fits : (ladder : List Entry → ℕ → LadderState) (start : Start) (contents : List (Tag × List ℕ)) (past : List Entry)
    (tag : Tag) (at : ℕ) (slot : Slot) (word sum after : List ℕ) (old new : List DieState)
    → IsStart start → IsLawfulBy ladder start.base (made tag (Kind.Move at slot) ∷ past)
    → word ≡ word_recovered (ladder_of (coding_of start.base) start contents past at)
    → AreDue start.base.shape (blocks_of start.base past) old
    → IsProgrammed start.base.shape slot word (bytes_sum word sum) old new
    → after ≡ sum_after start.base.shape slot (bytes_sum word sum) ProgramEnd.Programmed
    → DiesFit start contents past old sum → DiesFit start contents (made tag (Kind.Move at slot) ∷ past) new after
move_fits ladder start contents past tag at slot word sum after old new is_start lawful word_is due is after_is fit =
    let next : next_slot start.base past ≡ Some slot =
    of_some (open_look past tag at) (λ look. IsLawfulMove (ladder past at) start.base past look slot)
    (λ look move. move.is_programmed.is_next) lawful.1.meets in
    let range : has_slot start.base.shape slot ≡ true = lawful.1.in_range in
    let with_word : FitWith start contents past tag 0 slot
    (word_recovered (ladder_of (coding_of start.base) start contents past at)) new after =
    subst (λ (w : List ℕ). FitWith start contents past tag 0 slot w new after) word_is
    (program_fits ladder start contents past tag 0 slot word sum after old new is_start lawful.0 next range due is after_is
    fit) in
    fits_counted start contents past (made tag (Kind.Move at slot)) old new sum after fit (λ die. refl)
    (λ die lt. programmed_counted start slot word (bytes_sum word sum) old new is die)
    with_word.pages
    (due_after ladder start past (made tag (Kind.Move at slot)) slot word (bytes_sum word sum) old new next range due
    (blocks_after_entry ladder start.base (made tag (Kind.Move at slot)) past lawful) is)
    with_word.sums
