-- The dies and the running sum fit a past after a program of the next slot stopped at a die: a write that failed, and a copy
-- that did. The superblock is retired, so no stripe is open after it.
use Rattle.std.proofs.Common.{◌≡◌, ◌≢◌, ℕ, ◌<◌, ◌==◌, ◌&&◌, ◌||◌, Bool, true, false, List, ◌∷◌, ℤ, refl, ap, sym, ◌∙◌, subst}
use Rattle.std.proofs.Common.{Option, Some, None, arith, IsTrue, inl, inr}
use Rattle.std.specs.Prelude.{nat_lt}
use Rattle.std.specs.List.{list_any}
use Rattle.std.proofs.lemmas.Bool.{cases_eq}
use Rattle.std.proofs.lemmas.Bool.Decides.{nat_tests}
use Rattle.ssd_geo.specs.Coding.{coding_of, word_bytes_in}
use Rattle.ssd_geo.specs.Ladder.{LadderState, word_recovered}
use Rattle.ssd_geo.specs.StripeSum.{zero_word}
use Rattle.ssd_geo.specs.declared.base.BlockBase.{BlockBase}
use Rattle.ssd_geo.specs.declared.base.ChannelBase.{ChannelBase}
use Rattle.ssd_geo.specs.declared.entry.Entry.{Entry}
use Rattle.ssd_geo.specs.declared.kind.Kind.{Kind}
use Rattle.ssd_geo.specs.declared.place.Place.{Place}
use Rattle.ssd_geo.specs.declared.slot.Slot.{Slot}
use Rattle.ssd_geo.specs.declared.superblock.SbState.{SbState}
use Rattle.ssd_geo.specs.declared.tag.Tag.{Tag}
use Rattle.ssd_histories.specs.BlockLaws.{AtMostOne}
use Rattle.ssd_histories.specs.Blocks.{frontier_of, is_frontier_block, with_retired}
use Rattle.ssd_histories.specs.History.{open_look}
use Rattle.ssd_histories.specs.Lawful.{IsLawfulBadCopy, IsLawfulBy}
use Rattle.ssd_histories.specs.PastBlocks.{block_before, blocks_of, is_picked, slots_in, state_by, state_of, turns_bad, used_of}
use Rattle.ssd_histories.specs.PastPages.{PageChange, programs, leaves, change_by_failed, is_place, ladder_of, running_sum}
use Rattle.ssd_histories.specs.PastPages.{sum_of_open}
use Rattle.ssd_histories.specs.PastRows.{serial_of}
use Rattle.ssd_histories.specs.Ranges.{has_place, has_slot}
use Rattle.ssd_histories.specs.Room.{next_slot}
use Rattle.ssd_histories.specs.Standing.{IsStart}
use Rattle.ssd_histories.specs.Start.{Start, data_of}
use Rattle.ssd_histories.specs.States.{is_bad, is_frontier}
use Rattle.ssd_histories.proofs.BlockSteps.{blocks_after_entry}
use Rattle.ssd_histories.proofs.FreshSlots.{same_place}
use Rattle.ssd_histories.proofs.OneOfEach.{found_block, one_frontier, frontier_turned}
use Rattle.ssd_histories.proofs.UsedSlots.{first_holds, made, of_some}
use Rattle.onfi_cmd.specs.DieState.{DieState}
use Rattle.chan_dies.specs.DiesState.{blocks_told, die_at}
use Rattle.chan_dies.specs.OneDie.{FaultsDie, RefusesBlock}
use Rattle.chan_dies.specs.Programming.{StopsAtParity, StopsAtSlot, StopsProgram, page_of_slot, parity_of_slot}
use Rattle.chan_fits.specs.DiesFit.{AreDue, DiesFit, told_page}
use Rattle.chan_fits.proofs.BlockChanges.{TellsTheSame, stopped_blocks, told_faulted, told_kept, told_same}
use Rattle.chan_fits.proofs.DueAfter.{dies_differ}
use Rattle.chan_fits.proofs.DueDies.{due_retired}
use Rattle.chan_fits.proofs.Frontiers.{frontier_is_found, next_in_frontier, one_at_start}
use Rattle.chan_fits.proofs.PlacesInRange.{HasPlaces, has_places, place_in_range}
use Rattle.chan_fits.proofs.ProgramFits.{blocks_number, may_program}
use Rattle.chan_fits.proofs.ProgramPages.{MayProgram, changed_levels, put_levels, put_other, two_places}
use Rattle.chan_fits.proofs.QuietFits.{StaysCounted, fits_counted, fits_faulted, kept_counted, page_stays, same_counted}
use Rattle.shared_lemmas.proofs.Tests.{middle_holds}

-- ---- pages

-- what a program that stopped does to a page, by whether it stopped at the parity, and whether the page is the slot's
abbrev change_if : Bool → Bool → PageChange
change_if at_parity here = elim (at_parity && here) [ true ↦ programs | false ↦ leaves ]

-- each page after a program that stopped is that of the past with the word
failed_pages : (start : Start) (contents : List (Tag × List ℕ)) (past : List Entry) (slot : Slot) (word sum : List ℕ) (die : ℕ)
    (P : DieState → DieState → Type 0) (old new : List DieState)
    → TellsTheSame P → MayProgram start contents past slot old sum → StopsProgram start.base.shape slot word die P old new
    → (place : Place) → IsTrue (has_place start.base.shape place)
    → told_page new place ≡ changed_levels start contents past word place
    (change_by_failed start.base.shape.dies slot die place)
failed_pages start contents past slot word sum die P old new tells may stops place range = elim (stops.stops) [
  | inl first ↦ at_slot first
  | inr second ↦ at_parity second (is_place place slot_place) refl
]
  where
    slot_place : Place
    slot_place = page_of_slot start.base.shape slot

    parity : ℕ
    parity = (parity_of_slot start.base.shape slot).die

    there : HasPlaces start.base.shape slot
    there = has_places start.base.shape slot may.range

    changed : PageChange → Option (List ℤ)
    changed change = changed_levels start contents past word place change

    test_eq : (a b : ℕ) → a ≡ b → (a == b) ≡ true
    test_eq a b e = grind (arith, nat_tests)

    test_other : (a b : ℕ) → a ≢ b → (a == b) ≡ false
    test_other a b e = grind (arith, nat_tests)

    stopped_tells : P (die_at old die) (die_at new die) → place.die ≡ die
        → blocks_told new place.die ≡ blocks_told old place.die
    stopped_tells stopped here =
        subst (λ (n : ℕ). blocks_told new n ≡ blocks_told old n) (sym here) (tells (die_at old die) (die_at new die) stopped)

    stays : change_by_failed start.base.shape.dies slot die place ≡ leaves → told_page new place ≡ told_page old place
        → told_page new place ≡ changed (change_by_failed start.base.shape.dies slot die place)
    stays none same = same ∙ may.fit.pages_are place range ∙ sym (ap {B = Option (List ℤ)} changed none)

    at_slot : StopsAtSlot start.base.shape slot die P old new
        → told_page new place ≡ changed (change_by_failed start.base.shape.dies slot die place)
    at_slot first =
        let other : (die == parity) ≡ false = test_other die parity
        (λ e. dies_differ start.base.shape slot may.range (sym first.is_slot ∙ e)) in
        stays (λ i. change_if (other i) (is_place place slot_place))
        (page_stays old new place (elim (cases_eq place.die die) as
        (λ _. blocks_told new place.die ≡ blocks_told old place.die) [
          | inl here ↦ stopped_tells first.stopped here
          | inr far ↦ told_same old new place.die (first.others place.die far)
        ]))

    at_parity : StopsAtParity start.base.shape slot word die P old new → (here : Bool) → is_place place slot_place ≡ here
        → told_page new place ≡ changed (change_by_failed start.base.shape.dies slot die place)
    at_parity second true here =
        subst (λ (p : Place). told_page new p ≡ changed_levels start contents past word p
        (change_by_failed start.base.shape.dies slot die place)) (sym (same_place place slot_place here))
        (put_levels start contents past slot slot_place word sum old new may refl there.slot_range may.next.of_slot
        second.slot_page
        ∙ sym (ap {B = Option (List ℤ)} (changed_levels start contents past word slot_place)
        (λ i. change_if (test_eq die parity second.is_parity i) (here i))))
    at_parity second false other =
        stays (λ i. change_if (test_eq die parity second.is_parity i) (other i))
        (elim (cases_eq place.die die) as (λ _. told_page new place ≡ told_page old place) [
          | inl here ↦ page_stays old new place (stopped_tells second.stopped here)
          | inr far ↦ elim (cases_eq place.die slot_place.die) [
            | inl here ↦
                put_other slot_place word old new place second.slot_page
                (omega (
                  arith,
                  (place_in_range start.base.shape slot_place there.slot_range).superblock,
                  may.counts slot_place.die (place_in_range start.base.shape slot_place there.slot_range).die,
                ))
                may.next.of_slot here (two_places place slot_place other)
            | inr elsewhere ↦ page_stays old new place (told_same old new place.die (second.others place.die far elsewhere))
          ]
        ])

-- ---- the running sum

-- whether a superblock was bad at the start, and whether it turned bad since
abbrev was_bad : ChannelBase → ℕ → Bool
was_bad base sb = is_bad (block_before base sb).state

abbrev turned : List Entry → ℕ → Bool
turned past sb = list_any (λ entry. turns_bad sb entry.kind) past

-- the state of a superblock after one was retired
abbrev retired_state : ChannelBase → List Entry → ℕ → Bool → SbState
retired_state base past k here = state_by (was_bad base k || (here || turned past k)) (is_picked base past k) (slots_in base)
    (used_of base past k)

-- no superblock is the frontier after the superblock of the next slot was retired
none_left : (base : ChannelBase) (past : List Entry) (entry : Entry) (slot : Slot) → AtMostOne is_frontier base past
    → next_slot base past ≡ Some slot
    → ((k : ℕ) → state_of base (entry ∷ past) k ≡ retired_state base past k (slot.sb == k))
    → frontier_of (blocks_of base (entry ∷ past)) ≡ None
none_left base past entry slot one next after =
    by_place (frontier_of (blocks_of base (entry ∷ past))) (λ k e. found_block base (entry ∷ past) is_frontier_block k e)
  where
    same : (a b : ℕ) → (a == b) ≡ false → b ≡ a → ⊥
    same a b e f = grind (arith, nat_tests)

    no_more : (k : ℕ) (b : Bool) → (slot.sb == k) ≡ b → k < base.shape.superblocks
        → is_frontier (retired_state base past k b) ≡ true → ⊥
    no_more k true e lt here = frontier_turned (was_bad base k) (turned past k) (is_picked base past k) (slots_in base)
        (used_of base past k) here
    no_more k false e lt here = same slot.sb k e (next_in_frontier base past slot k next
        (frontier_is_found base past k one lt here))

    by_place : (o : Option ℕ) → ((k : ℕ) → o ≡ Some k
        → (k < base.shape.superblocks) × (is_frontier (state_of base (entry ∷ past) k) ≡ true)) → o ≡ None
    by_place None found = refl
    by_place (Some k) found =
        let there : (k < base.shape.superblocks) × (is_frontier (state_of base (entry ∷ past) k) ≡ true) = found k refl in
        absurd (no_more k (slot.sb == k) refl there.0 (subst (λ (s : SbState). is_frontier s ≡ true) (after k) there.1))

-- so the running sum is zeros
failed_sum : (start : Start) (contents : List (Tag × List ℕ)) (past : List Entry) (entry : Entry) (slot : Slot)
    → AtMostOne is_frontier start.base past → next_slot start.base past ≡ Some slot
    → ((k : ℕ) → state_of start.base (entry ∷ past) k ≡ retired_state start.base past k (slot.sb == k))
    → zero_word (word_bytes_in start.base.shape) ≡ running_sum (coding_of start.base) start contents (entry ∷ past)
failed_sum start contents past entry slot one next after =
    sym (ap {B = List ℕ} (λ (o : Option ℕ). elim o [
      | Some sb ↦ sum_of_open (coding_of start.base) start contents (entry ∷ past) sb
      | None ↦ zero_word (word_bytes_in start.base.shape)
    ]) (none_left start.base past entry slot one next after))

-- ---- a write or a copy that failed

pub refused_tells : (sb : ℕ) → TellsTheSame (RefusesBlock sb)
refused_tells sb old new refuses = told_kept old new refuses.keeps

pub faulted_tells : TellsTheSame FaultsDie
faulted_tells old new faults = told_faulted old new faults

-- the plans and counts of the dies but the one that stopped
pub others_counted : (start : Start) (slot : Slot) (word : List ℕ) (die : ℕ) (P : DieState → DieState → Type 0)
    (old new : List DieState) → StopsProgram start.base.shape slot word die P old new
    → (other : ℕ) → other ≢ die → StaysCounted (die_at old other) (die_at new other)
others_counted start slot word die P old new stops other far = elim (stops.stops) [
  | inl first ↦ same_counted (die_at old other) (die_at new other) (first.others other far)
  | inr second ↦ elim (cases_eq other (page_of_slot start.base.shape slot).die) [
    | inl here ↦
        subst (λ (n : ℕ). StaysCounted (die_at old n) (die_at new n)) (sym here)
        (record {
          plan_stays = second.slot_page.holds.plan_stays;
          works_stay = second.slot_page.holds.works_stay;
          loads_stay = second.slot_page.holds.loads_stay;
        })
    | inr elsewhere ↦ same_counted (die_at old other) (die_at new other) (second.others other far elsewhere)
  ]
]

pub stopped_there : (start : Start) (slot : Slot) (word : List ℕ) (die : ℕ) (P : DieState → DieState → Type 0)
    (old new : List DieState) → StopsProgram start.base.shape slot word die P old new
    → P (die_at old die) (die_at new die)
stopped_there start slot word die P old new stops =
    elim (stops.stops) [ inl first ↦ first.stopped | inr second ↦ second.stopped ]

-- what is known after a program that stopped
record StoppedWith (start : Start) (contents : List (Tag × List ℕ)) (past : List Entry) (entry : Entry) (slot : Slot)
    (word : List ℕ) (die : ℕ) (new : List DieState) : Type 0 where
  pub pages : (place : Place) → IsTrue (has_place start.base.shape place)
      → told_page new place ≡ changed_levels start contents past word place
      (change_by_failed start.base.shape.dies slot die place)
  pub due : AreDue start.base.shape (blocks_of start.base (entry ∷ past)) new
  pub sums : zero_word (word_bytes_in start.base.shape) ≡ running_sum (coding_of start.base) start contents (entry ∷ past)

stopped_with : (ladder : List Entry → ℕ → LadderState) (start : Start) (contents : List (Tag × List ℕ)) (past : List Entry)
    (entry : Entry) (slot : Slot) (word sum : List ℕ) (die : ℕ)
    (P : DieState → DieState → Type 0) (old new : List DieState) → IsStart start → IsLawfulBy ladder start.base past
    → next_slot start.base past ≡ Some slot → IsTrue (has_slot start.base.shape slot)
    → ((k : ℕ) → state_of start.base (entry ∷ past) k ≡ retired_state start.base past k (slot.sb == k))
    → blocks_of start.base (entry ∷ past) ≡ with_retired (blocks_of start.base past) slot.sb
    → AreDue start.base.shape (blocks_of start.base past) old → TellsTheSame P
    → StopsProgram start.base.shape slot word die P old new
    → DiesFit start contents past old sum → StoppedWith start contents past entry slot word die new
stopped_with ladder start contents past entry slot word sum die P old new is_start lawful next range states after due tells
    stops fit = record {
      pages = failed_pages start contents past slot word sum die P old new tells
          (may_program start contents past slot old sum next range due fit) stops;
      due =
          subst (λ (blocks : List BlockBase). AreDue start.base.shape blocks new) (sym after)
          (due_retired start.base.shape (blocks_of start.base past) old new slot.sb (blocks_number start past)
          (λ other lt. stopped_blocks start.base.shape slot word die P old new tells stops other) due);
      sums = failed_sum start contents past entry slot
          (one_frontier ladder start.base past (one_at_start start is_start) lawful) next states;
    }

-- the plans and counts of all dies, where a block answered FAIL
pub refused_counted : (start : Start) (slot : Slot) (word : List ℕ) (die : ℕ) (old new : List DieState)
    → StopsProgram start.base.shape slot word die (RefusesBlock slot.sb) old new
    → (other : ℕ) → StaysCounted (die_at old other) (die_at new other)
refused_counted start slot word die old new stops other = elim (cases_eq other die) [
  | inl here ↦
      subst (λ (n : ℕ). StaysCounted (die_at old n) (die_at new n)) (sym here)
      (kept_counted (die_at old die) (die_at new die)
      (stopped_there start slot word die (RefusesBlock slot.sb) old new stops).keeps)
  | inr far ↦ others_counted start slot word die (RefusesBlock slot.sb) old new stops other far
]

-- after a lawful write that failed, where a block answered FAIL
pub bad_write_fits : (ladder : List Entry → ℕ → LadderState) (start : Start) (contents : List (Tag × List ℕ))
    (past : List Entry) (tag : Tag) (row : ℕ) (slot : Slot) (die : ℕ) (word sum : List ℕ) (old new : List DieState)
    → IsStart start → IsLawfulBy ladder start.base (made tag (Kind.BadWrite row slot die false) ∷ past)
    → word ≡ (coding_of start.base).encoded (serial_of start.base.session tag) row (data_of contents tag)
    → AreDue start.base.shape (blocks_of start.base past) old
    → StopsProgram start.base.shape slot word die (RefusesBlock slot.sb) old new
    → DiesFit start contents past old sum
    → DiesFit start contents (made tag (Kind.BadWrite row slot die false) ∷ past) new
    (zero_word (word_bytes_in start.base.shape))
bad_write_fits ladder start contents past tag row slot die word sum old new is_start lawful word_is due stops fit =
    let next : next_slot start.base past ≡ Some slot = lawful.1.meets.is_failed.is_next in
    let range : has_slot start.base.shape slot ≡ true =
    middle_holds (nat_lt row start.base.shape.rows) (has_slot start.base.shape slot)
    (nat_lt die start.base.shape.dies) lawful.1.in_range in
    let there : StoppedWith start contents past (made tag (Kind.BadWrite row slot die false)) slot
    ((coding_of start.base).encoded (serial_of start.base.session tag) row (data_of contents tag)) die new =
    subst (λ (w : List ℕ). StoppedWith start contents past (made tag (Kind.BadWrite row slot die false)) slot w die new) word_is
    (stopped_with ladder start contents past (made tag (Kind.BadWrite row slot die false)) slot word sum die
    (RefusesBlock slot.sb) old new is_start lawful.0 next range
    (λ k. refl) (blocks_after_entry ladder start.base (made tag (Kind.BadWrite row slot die false)) past lawful) due
    (refused_tells slot.sb) stops fit) in
    fits_counted start contents past (made tag (Kind.BadWrite row slot die false)) old new sum
    (zero_word (word_bytes_in start.base.shape)) fit (λ other. refl)
    (λ other lt. refused_counted start slot word die old new stops other)
    there.pages there.due there.sums

-- where a die's call failed
pub fault_write_fits : (ladder : List Entry → ℕ → LadderState) (start : Start) (contents : List (Tag × List ℕ))
    (past : List Entry) (tag : Tag) (row : ℕ) (slot : Slot) (die : ℕ) (word sum : List ℕ) (old new : List DieState)
    → IsStart start → IsLawfulBy ladder start.base (made tag (Kind.BadWrite row slot die true) ∷ past)
    → word ≡ (coding_of start.base).encoded (serial_of start.base.session tag) row (data_of contents tag)
    → AreDue start.base.shape (blocks_of start.base past) old
    → StopsProgram start.base.shape slot word die FaultsDie old new
    → DiesFit start contents past old sum
    → DiesFit start contents (made tag (Kind.BadWrite row slot die true) ∷ past) new
    (zero_word (word_bytes_in start.base.shape))
fault_write_fits ladder start contents past tag row slot die word sum old new is_start lawful word_is due stops fit =
    let next : next_slot start.base past ≡ Some slot = lawful.1.meets.is_failed.is_next in
    let range : has_slot start.base.shape slot ≡ true =
    middle_holds (nat_lt row start.base.shape.rows) (has_slot start.base.shape slot)
    (nat_lt die start.base.shape.dies) lawful.1.in_range in
    let there : StoppedWith start contents past (made tag (Kind.BadWrite row slot die true)) slot
    ((coding_of start.base).encoded (serial_of start.base.session tag) row (data_of contents tag)) die new =
    subst (λ (w : List ℕ). StoppedWith start contents past (made tag (Kind.BadWrite row slot die true)) slot w die new) word_is
    (stopped_with ladder start contents past (made tag (Kind.BadWrite row slot die true)) slot word sum die FaultsDie old new
    is_start lawful.0 next range
    (λ k. refl) (blocks_after_entry ladder start.base (made tag (Kind.BadWrite row slot die true)) past lawful) due
    faulted_tells stops fit) in
    fits_faulted start contents past (made tag (Kind.BadWrite row slot die true)) die old new sum
    (zero_word (word_bytes_in start.base.shape)) fit (λ other. refl)
    (stopped_there start slot word die FaultsDie old new stops)
    (λ other lt far. others_counted start slot word die FaultsDie old new stops other far)
    there.pages there.due there.sums

-- after a lawful copy that failed, where a block answered FAIL
pub bad_copy_fits : (ladder : List Entry → ℕ → LadderState) (start : Start) (contents : List (Tag × List ℕ)) (past : List Entry)
    (tag : Tag) (at : ℕ) (slot : Slot) (die : ℕ) (word sum : List ℕ) (old new : List DieState)
    → IsStart start → IsLawfulBy ladder start.base (made tag (Kind.BadCopy at slot die false) ∷ past)
    → word ≡ word_recovered (ladder_of (coding_of start.base) start contents past at)
    → AreDue start.base.shape (blocks_of start.base past) old
    → StopsProgram start.base.shape slot word die (RefusesBlock slot.sb) old new
    → DiesFit start contents past old sum
    → DiesFit start contents (made tag (Kind.BadCopy at slot die false) ∷ past) new (zero_word (word_bytes_in start.base.shape))
bad_copy_fits ladder start contents past tag at slot die word sum old new is_start lawful word_is due stops fit =
    let next : next_slot start.base past ≡ Some slot =
    of_some (open_look past tag at) (λ look. IsLawfulBadCopy (ladder past at) start.base past look slot die false)
    (λ look copy. copy.is_failed.is_next) lawful.1.meets in
    let range : has_slot start.base.shape slot ≡ true =
    first_holds (has_slot start.base.shape slot) (nat_lt die start.base.shape.dies) lawful.1.in_range in
    let there : StoppedWith start contents past (made tag (Kind.BadCopy at slot die false)) slot
    (word_recovered (ladder_of (coding_of start.base) start contents past at)) die new =
    subst (λ (w : List ℕ). StoppedWith start contents past (made tag (Kind.BadCopy at slot die false)) slot w die new) word_is
    (stopped_with ladder start contents past (made tag (Kind.BadCopy at slot die false)) slot word sum die
    (RefusesBlock slot.sb) old new is_start lawful.0 next range
    (λ k. refl) (blocks_after_entry ladder start.base (made tag (Kind.BadCopy at slot die false)) past lawful) due
    (refused_tells slot.sb) stops fit) in
    fits_counted start contents past (made tag (Kind.BadCopy at slot die false)) old new sum
    (zero_word (word_bytes_in start.base.shape)) fit (λ other. refl)
    (λ other lt. refused_counted start slot word die old new stops other)
    there.pages there.due there.sums

-- where a die's call failed
pub fault_copy_fits : (ladder : List Entry → ℕ → LadderState) (start : Start) (contents : List (Tag × List ℕ))
    (past : List Entry) (tag : Tag) (at : ℕ) (slot : Slot) (die : ℕ) (word sum : List ℕ) (old new : List DieState)
    → IsStart start → IsLawfulBy ladder start.base (made tag (Kind.BadCopy at slot die true) ∷ past)
    → word ≡ word_recovered (ladder_of (coding_of start.base) start contents past at)
    → AreDue start.base.shape (blocks_of start.base past) old
    → StopsProgram start.base.shape slot word die FaultsDie old new
    → DiesFit start contents past old sum
    → DiesFit start contents (made tag (Kind.BadCopy at slot die true) ∷ past) new (zero_word (word_bytes_in start.base.shape))
fault_copy_fits ladder start contents past tag at slot die word sum old new is_start lawful word_is due stops fit =
    let next : next_slot start.base past ≡ Some slot =
    of_some (open_look past tag at) (λ look. IsLawfulBadCopy (ladder past at) start.base past look slot die true)
    (λ look copy. copy.is_failed.is_next) lawful.1.meets in
    let range : has_slot start.base.shape slot ≡ true =
    first_holds (has_slot start.base.shape slot) (nat_lt die start.base.shape.dies) lawful.1.in_range in
    let there : StoppedWith start contents past (made tag (Kind.BadCopy at slot die true)) slot
    (word_recovered (ladder_of (coding_of start.base) start contents past at)) die new =
    subst (λ (w : List ℕ). StoppedWith start contents past (made tag (Kind.BadCopy at slot die true)) slot w die new) word_is
    (stopped_with ladder start contents past (made tag (Kind.BadCopy at slot die true)) slot word sum die FaultsDie old new
    is_start lawful.0 next range
    (λ k. refl) (blocks_after_entry ladder start.base (made tag (Kind.BadCopy at slot die true)) past lawful) due faulted_tells
    stops fit) in
    fits_faulted start contents past (made tag (Kind.BadCopy at slot die true)) die old new sum
    (zero_word (word_bytes_in start.base.shape)) fit (λ other. refl)
    (stopped_there start slot word die FaultsDie old new stops)
    (λ other lt far. others_counted start slot word die FaultsDie old new stops other far)
    there.pages there.due there.sums
