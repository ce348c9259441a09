-- Each page that is due by the used slots of its superblock is programmed, also where the superblock is bad.
use Rattle.std.proofs.Common.{◌≡◌, ◌≢◌, refl, ap, sym, subst, ◌∙◌, ℕ, zero, suc, ◌+◌, ◌≤◌, ◌<◌, ◌&&◌, ◌==◌, nat_lt, Bool, true, false, List, [], ◌∷◌, length, Option, Some, None, is_some, option_map, slice_get, ℤ, arith}
use Rattle.std.specs.Prelude.{IsTrue, if◌then◌else◌}
use Rattle.ssd_geo.specs.Bits.{bytes_sum}
use Rattle.ssd_geo.specs.Coding.{Coding}
use Rattle.ssd_geo.specs.Ladder.{LadderState}
use Rattle.ssd_geo.specs.Stripe.{is_last_of_stripe, parity_die, place_of_parity, place_of_slot, stripe_of_index}
use Rattle.ssd_geo.specs.Superblock.{due_pages}
use Rattle.ssd_geo.specs.declared.base.ChannelBase.{ChannelBase}
use Rattle.ssd_geo.specs.declared.entry.Entry.{Entry}
use Rattle.ssd_geo.specs.declared.kind.Kind.{Kind}
use Rattle.ssd_geo.specs.declared.place.Place.{Place}
use Rattle.ssd_geo.specs.declared.slot.Slot.{Slot}
use Rattle.ssd_geo.specs.declared.tag.Tag.{Tag}
use Rattle.ssd_geo.proofs.Stripes.{due_pages_ends, due_pages_step, pages_rise}
use Rattle.ssd_histories.specs.History.{open_look}
use Rattle.ssd_histories.specs.Lawful.{IsLawfulBy, IsLawfulKind, IsLawfulMove}
use Rattle.ssd_histories.specs.PastBlocks.{used_after, used_of}
use Rattle.ssd_histories.specs.PastPages.{PageChange, StoredPage, aged_page, change_by_program, change_when, fresh_page, is_place, page_change, page_of, programs, programs_parity, empties, ages, leaves, senses_of, stored_in_image, sum_of, word_programmed}
use Rattle.ssd_histories.specs.Ranges.{has_slot, is_in_range}
use Rattle.ssd_histories.specs.Room.{next_slot}
use Rattle.ssd_histories.specs.Standing.{IsStart}
use Rattle.ssd_histories.specs.Start.{Start, cells_at_start}
use Rattle.ssd_histories.proofs.UsedSlots.{next_is_used, of_some, slot_in_range, other_block}
use Rattle.chan_fits.proofs.DueAfter.{dies_differ}
use Rattle.contents_end.proofs.Tests.{both_true, equal_if}
use Rattle.std.proofs.lemmas.Bool.{and_parts, eqb-true}
use Rattle.run_laws.proofs.SpelledPasts.{three}

-- what a change leaves of a page: what a program writes there, and what stood there before
abbrev left_by : ChannelBase → StoredPage → (Slot → StoredPage) → Option StoredPage → PageChange → Option StoredPage
left_by base a b before change = elim change [
  | programs ↦ Some a
  | programs_parity slot ↦ Some (b slot)
  | empties ↦ None
  | ages amount ↦ option_map (aged_page base amount) before
  | leaves ↦ before
]

aged_stays : (base : ChannelBase) (amount : ℕ) (page : Option StoredPage) → is_some page ≡ true
    → is_some (option_map (aged_page base amount) page) ≡ true
aged_stays base amount None e = e
aged_stays base amount (Some page) e = refl

absurd_bool : {A : Type 0} (b : Bool) → b ≡ true → b ≡ false → A
absurd_bool true e f = absurd (let both : true ≡ false = f in (cc))
absurd_bool false e f = absurd (let both : false ≡ true = e in (cc))

-- a page of a die below those that are due after one more slot, but for the two that were programmed, was due before
below_due : (here last : Bool) (k due stripe : ℕ) → (here ≡ true → due ≡ stripe) → (here ≡ true → k ≢ stripe)
    → (last ≡ true → due ≡ stripe) → (last ≡ true → k ≢ stripe) → (here ≡ true → last ≡ false)
    → k < due + (if here then 1 else 0) + (if last then 1 else 0) → k < due
below_due true true k due stripe is other is_last other_last apart lt = absurd_bool true refl (apart refl)
below_due true false k due stripe is other is_last other_last apart lt = omega (arith, is refl, other refl, lt)
below_due false true k due stripe is other is_last other_last apart lt = omega (arith, is_last refl, other_last refl, lt)
below_due false false k due stripe is other is_last other_last apart lt = omega (arith, lt)

-- what a program of a slot leaves of a page, by whether it is the slot's and whether it is the parity's
program_leaves : (base : ChannelBase) (a : StoredPage) (b : Slot → StoredPage) (before : Option StoredPage) (slot : Slot)
    (own parity : Bool) → (own ≡ false → parity ≡ false → is_some before ≡ true)
    → is_some (left_by base a b before (elim own [
      | true ↦ programs
      | false ↦ elim parity [ true ↦ programs_parity slot | false ↦ leaves ]
    ])) ≡ true
program_leaves base a b before slot true parity stood = refl
program_leaves base a b before slot false true stood = refl
program_leaves base a b before slot false false stood = stood refl refl

failed_leaves : (base : ChannelBase) (a : StoredPage) (b : Slot → StoredPage) (before : Option StoredPage)
    (own : Bool) → is_some before ≡ true → is_some (left_by base a b before (elim own [ true ↦ programs | false ↦ leaves ])) ≡ true
failed_leaves base a b before true stood = refl
failed_leaves base a b before false stood = stood

-- a page of the superblock of a slot that is programmed
module _ (base : ChannelBase) (slot : Slot) (range : IsTrue (has_slot base.shape slot)) (a : StoredPage) (b : Slot → StoredPage)
    (before : Option StoredPage) (die k : ℕ) (in_dies : die < base.shape.dies) where
  abbrev dies : ℕ
  dies = base.shape.dies

  abbrev stripe : ℕ
  stripe = stripe_of_index dies slot.index

  abbrev page : Place
  page = record { die = die; sb = slot.sb; page = k }

  here : (k < due_pages dies slot.sb slot.index die → is_some before ≡ true) → k < due_pages dies slot.sb (slot.index + 1) die
      → is_some (left_by base a b before (change_by_program dies slot page)) ≡ true
  here stood lt =
      let two : 2 ≤ dies = omega (arith, base.shape.within.dies_low) in
      let rise = pages_rise dies slot.sb slot.index two in
      let own : Bool = die == (place_of_slot dies slot).die in
      let closes : Bool = is_last_of_stripe dies slot.index in
      let of_parity : Bool = die == parity_die dies slot.sb stripe in
      let last : Bool = closes && of_parity in
      let step : k < due_pages dies slot.sb slot.index die + (if own then 1 else 0) + (if last then 1 else 0) =
      subst (λ (n : ℕ). k < n) (due_pages_step dies slot.sb slot.index die two in_dies) lt in
      let itself : (slot.sb == slot.sb) ≡ true = equal_if slot.sb slot.sb refl in
      program_leaves base a b before slot (is_place page (place_of_slot dies slot))
      (closes && is_place page (place_of_parity dies slot.sb stripe))
      (λ not_own not_parity. stood (below_due own last k (due_pages dies slot.sb slot.index die) stripe
      (λ e. ap (λ (number : ℕ). due_pages dies slot.sb slot.index number) (eqb-true die (place_of_slot dies slot).die e) ∙ rise.of_slot)
      (λ e same. absurd_bool (is_place page (place_of_slot dies slot))
      (three own (slot.sb == slot.sb) (k == stripe) e itself (equal_if k stripe same)) not_own)
      (λ e. ap (λ (number : ℕ). due_pages dies slot.sb slot.index number)
      (eqb-true die (parity_die dies slot.sb stripe) (and_parts closes of_parity e).1) ∙ rise.of_parity)
      (λ e same. absurd_bool (closes && is_place page (place_of_parity dies slot.sb stripe))
      (both_true closes (is_place page (place_of_parity dies slot.sb stripe)) (and_parts closes of_parity e).0
      (three of_parity (slot.sb == slot.sb) (k == stripe) (and_parts closes of_parity e).1 itself (equal_if k stripe same))) not_parity)
      (λ e. not_both last (λ f. dies_differ base.shape slot range
      (sym (eqb-true die (place_of_slot dies slot).die e) ∙ eqb-true die (parity_die dies slot.sb stripe) (and_parts closes of_parity f).1)))
      step))
    where
      not_both : (c : Bool) → (c ≡ true → ⊥) → c ≡ false
      not_both true never = absurd (never refl)
      not_both false never = refl

-- the same of any superblock
program_stands : (base : ChannelBase) (past : List Entry) (slot : Slot) → next_slot base past ≡ Some slot
    → has_slot base.shape slot ≡ true → (a : StoredPage) (b : Slot → StoredPage) (before : Option StoredPage)
    (die sb k : ℕ) → die < base.shape.dies
    → (k < due_pages base.shape.dies sb (used_of base past sb) die → is_some before ≡ true)
    → k < due_pages base.shape.dies sb (if slot.sb == sb then used_of base past sb + 1 else used_of base past sb) die
    → is_some (left_by base a b before (change_by_program base.shape.dies slot (record { die = die; sb = sb; page = k }))) ≡ true
program_stands base past slot next range a b before die sb k in_dies stood lt = by_test (slot.sb == sb) refl lt
  where
    by_test : (c : Bool) → (slot.sb == sb) ≡ c
        → k < due_pages base.shape.dies sb (if c then used_of base past sb + 1 else used_of base past sb) die
        → is_some (left_by base a b before (change_by_program base.shape.dies slot (record { die = die; sb = sb; page = k }))) ≡ true
    by_test true e more =
        let dies : ℕ = base.shape.dies in
        let index : slot.index ≡ used_of base past slot.sb =
        next_is_used base past slot next (slot_in_range base.shape slot range) in
        let at_slot : (k < due_pages dies slot.sb (used_of base past slot.sb) die → is_some before ≡ true)
        → k < due_pages dies slot.sb (used_of base past slot.sb + 1) die
        → is_some (left_by base a b before (change_by_program dies slot (record { die = die; sb = slot.sb; page = k }))) ≡ true =
        subst (λ (used : ℕ). (k < due_pages dies slot.sb used die → is_some before ≡ true) → k < due_pages dies slot.sb (used + 1) die
        → is_some (left_by base a b before (change_by_program dies slot (record { die = die; sb = slot.sb; page = k }))) ≡ true)
        index (here base slot range a b before die k in_dies) in
        subst (λ (s : ℕ). (k < due_pages dies s (used_of base past s) die → is_some before ≡ true)
        → k < due_pages dies s (used_of base past s + 1) die
        → is_some (left_by base a b before (change_by_program dies slot (record { die = die; sb = s; page = k }))) ≡ true)
        (eqb-true slot.sb sb e) at_slot stood more
    by_test false e more =
        program_leaves base a b before slot
        (is_place (record { die = die; sb = sb; page = k }) (place_of_slot base.shape.dies slot))
        (is_last_of_stripe base.shape.dies slot.index
        && is_place (record { die = die; sb = sb; page = k })
        (place_of_parity base.shape.dies slot.sb (stripe_of_index base.shape.dies slot.index)))
        (λ _ _. stood more)

-- an erase leaves no slot used; elsewhere it leaves the pages
erase_stands : (base : ChannelBase) (a : StoredPage) (b : Slot → StoredPage) (before : Option StoredPage)
    (named die sb k used : ℕ) (some : Bool) → (k < due_pages base.shape.dies sb used die → is_some before ≡ true)
    → k < due_pages base.shape.dies sb (if named == sb then 0 else used) die
    → is_some (left_by base a b before (change_when (sb == named && some) empties)) ≡ true
erase_stands base a b before named die sb k used some stood lt = by_test (named == sb) refl lt
  where
    by_test : (c : Bool) → (named == sb) ≡ c → k < due_pages base.shape.dies sb (if c then 0 else used) die
        → is_some (left_by base a b before (change_when (sb == named && some) empties)) ≡ true
    by_test true e more =
        let two : 2 ≤ base.shape.dies = omega (arith, base.shape.within.dies_low) in
        absurd (omega (arith, more, (due_pages_ends base.shape.dies sb 0 die two).none))
    by_test false e more =
        ap (λ (c : Bool). is_some (left_by base a b before (change_when (c && some) empties))) (other_block named sb e) ∙ stood more

and_true : (b : Bool) → (b && true) ≡ b
and_true true = refl
and_true false = refl

age_leaves : (base : ChannelBase) (a : StoredPage) (b : Slot → StoredPage) (before : Option StoredPage) (c : Bool) (amount : ℕ)
    → is_some before ≡ true → is_some (left_by base a b before (change_when c (ages amount))) ≡ true
age_leaves base a b before true amount stood = aged_stays base amount before stood
age_leaves base a b before false amount stood = stood

-- a page that is due after a lawful entry stands
step : (ladder : ℕ → LadderState) (base : ChannelBase) (past : List Entry) (tag : Tag) (kind : Kind) → is_in_range base.shape kind ≡ true
    → IsLawfulKind ladder base past tag kind → (a : StoredPage) (b : Slot → StoredPage) (before : Option StoredPage)
    (die sb k : ℕ) → die < base.shape.dies
    → (k < due_pages base.shape.dies sb (used_of base past sb) die → is_some before ≡ true)
    → k < due_pages base.shape.dies sb (used_after sb kind (used_of base past sb)) die
    → is_some (left_by base a b before (page_change base.shape.dies kind (record { die = die; sb = sb; page = k }))) ≡ true
step ladder base past tag (Kind.Write row slot) range lawful a b before die sb k in_dies stood lt =
    program_stands base past slot lawful.is_programmed.is_next (and_parts (nat_lt row base.shape.rows) (has_slot base.shape slot) range).1 a b before die sb k in_dies stood lt
step ladder base past tag (Kind.Move at slot) range lawful a b before die sb k in_dies stood lt =
    of_some (open_look past tag at) (λ look. IsLawfulMove (ladder at) base past look slot)
    (λ look move. program_stands base past slot move.is_programmed.is_next range a b before die sb k in_dies stood lt) lawful
step ladder base past tag (Kind.BadWrite row slot named fault) range lawful a b before die sb k in_dies stood lt =
    failed_leaves base a b before _ (stood lt)
step ladder base past tag (Kind.BadCopy at slot named fault) range lawful a b before die sb k in_dies stood lt =
    failed_leaves base a b before _ (stood lt)
step ladder base past tag (Kind.Erase named) range lawful a b before die sb k in_dies stood lt =
    ap (λ (c : Bool). is_some (left_by base a b before (change_when c empties))) (sym (and_true (sb == named)))
    ∙ erase_stands base a b before named die sb k (used_of base past sb) true stood lt
step ladder base past tag (Kind.BadErase named last fault) range lawful a b before die sb k in_dies stood lt =
    erase_stands base a b before named die sb k (used_of base past sb) (nat_lt die last) stood lt
step ladder base past tag (Kind.Age named at amount) range lawful a b before die sb k in_dies stood lt =
    age_leaves base a b before _ amount (stood lt)
step ladder base past tag kind range lawful a b before die sb k in_dies stood lt = stood lt

in_image : (levels : Option (List ℤ)) → is_some levels ≡ true → is_some (option_map stored_in_image levels) ≡ true
in_image None e = e
in_image (Some levels) e = refl

stands_in : (pages : List (List ℤ)) (k : ℕ) → k < length pages → is_some (slice_get pages k) ≡ true
stands_in [] k below = absurd (omega (arith, below))
stands_in (first ∷ pages) zero below = refl
stands_in (first ∷ pages) (suc k) below = stands_in pages k (omega (arith, below))

-- none stands behind the last
pub ends_there : (pages : List (List ℤ)) → is_some (slice_get pages (length pages)) ≡ false
ends_there [] = refl
ends_there (first ∷ pages) = ends_there pages

-- each page that is due by the used slots stands
pub used_pages_stand : (ladder : List Entry → ℕ → LadderState) (coding : Coding) (start : Start) (contents : List (Tag × List ℕ))
    (past : List Entry) → IsStart start → IsLawfulBy ladder start.base past → (die sb k : ℕ) → die < start.base.shape.dies
    → sb < start.base.shape.superblocks → k < due_pages start.base.shape.dies sb (used_of start.base past sb) die
    → is_some (page_of coding start contents past (record { die = die; sb = sb; page = k })) ≡ true
used_pages_stand ladder coding start contents [] is lawful die sb k in_dies in_blocks lt =
    let most : k < length (cells_at_start start die sb).pages = omega (arith, lt, (is.blocks_due die sb in_dies in_blocks).at_least) in
    in_image (slice_get (cells_at_start start die sb).pages k) (stands_in (cells_at_start start die sb).pages k most)
used_pages_stand ladder coding start contents (entry ∷ past) is lawful die sb k in_dies in_blocks lt =
    let place : Place = record { die = die; sb = sb; page = k } in
    let word : List ℕ = word_programmed coding start contents (senses_of coding start contents past) past entry.tag entry.kind in
    step (ladder past) start.base past entry.tag entry.kind lawful.1.in_range lawful.1.meets
    (fresh_page start.base past place word)
    (λ slot. fresh_page start.base past place
    (bytes_sum word (sum_of coding start contents past slot.sb (stripe_of_index start.base.shape.dies slot.index))))
    (page_of coding start contents past place) die sb k in_dies
    (λ before. used_pages_stand ladder coding start contents past is lawful.0 die sb k in_dies in_blocks before) lt
