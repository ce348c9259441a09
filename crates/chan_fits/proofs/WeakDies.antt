-- A block of a die is weak just where the past says so, while its superblock isn't bad: so what a program or an erase of
-- the dies finds of weak blocks is what the past allows.
use Rattle.std.proofs.Common.{◌≡◌, ◌≢◌, ℕ, zero, suc, ◌+◌, ◌<◌, ◌≤◌, ◌==◌, not, ◌&&◌, ◌||◌, Bool, true, false, List, [], ◌∷◌}
use Rattle.std.proofs.Common.{refl, ap, sym, ◌∙◌, subst, Option, Some, arith, IsTrue, inl, inr}
use Rattle.std.specs.Prelude.{IsFalse, if◌then◌else◌}
use Rattle.std.specs.List.{list_any, range_with_len}
use Rattle.std.proofs.lemmas.Bool.{cases_eq}
use Rattle.std.proofs.lemmas.Bool.Decides.{nat_tests}
use Rattle.ssd_geo.specs.WeakBlocks.{is_weak_in}
use Rattle.ssd_geo.specs.Stripe.{is_last_of_stripe}
use Rattle.ssd_geo.specs.StripeLaws.{IsPlace}
use Rattle.ssd_geo.specs.declared.base.ChannelBase.{ChannelBase}
use Rattle.ssd_geo.specs.declared.entry.Entry.{Entry}
use Rattle.ssd_geo.specs.declared.shape.Shape.{Shape}
use Rattle.ssd_geo.specs.declared.slot.Slot.{Slot}
use Rattle.ssd_geo.specs.declared.superblock.SbState.{SbState}
use Rattle.ssd_geo.specs.declared.tag.Tag.{Tag}
use Rattle.ssd_histories.specs.Blocks.{is_victim_block}
use Rattle.ssd_histories.specs.PastBlocks.{is_bad_superblock, is_picked, slots_in, state_by, state_of, used_of}
use Rattle.ssd_histories.specs.Ranges.{has_slot}
use Rattle.ssd_histories.specs.Room.{next_slot, victim_of}
use Rattle.ssd_histories.specs.Start.{Start}
use Rattle.ssd_histories.specs.States.{is_bad, is_victim}
use Rattle.ssd_histories.specs.WeakDies.{dies_in, dies_of_program, is_none_weak, is_weak, may_fail_on}
use Rattle.ssd_histories.proofs.OneOfEach.{found_block}
use Rattle.ssd_histories.proofs.PinnedWords.{next_sound}
use Rattle.onfi_cmd.specs.DieState.{DieState}
use Rattle.onfi_cmd.specs.declared.plan.DiePlan.{DiePlan}
use Rattle.chan_dies.specs.DiesState.{blocks_told, die_at, is_weak_at, is_weak_by}
use Rattle.chan_dies.specs.Erasing.{ErasesBelow, ErasesFirst, StopsErase}
use Rattle.chan_dies.specs.OneDie.{FaultsDie, RefusesBlock}
use Rattle.chan_dies.specs.Programming.{IsProgrammed, StopsProgram, page_of_slot, parity_of_slot}
use Rattle.chan_fits.specs.DiesFit.{DiesFit}
use Rattle.chan_fits.proofs.DueAfter.{dies_differ}
use Rattle.chan_fits.proofs.DueDies.{victim_good}
use Rattle.chan_fits.proofs.PlacesInRange.{HasPlaces, has_places, place_in_range}

-- a block is weak where the past says so
pub weak_is : (start : Start) (contents : List (Tag × List ℕ)) (past : List Entry) (dies : List DieState) (sum : List ℕ)
    (die sb : ℕ) → DiesFit start contents past dies sum
    → die < start.base.shape.dies → sb < start.base.shape.superblocks → IsFalse (is_bad (state_of start.base past sb))
    → is_weak_at dies die sb ≡ is_weak start.base past sb die
weak_is start contents past dies sum die sb fit lt within good =
    ap {B = Bool} (λ (plan : Option DiePlan). is_weak_by plan (blocks_told dies die) sb) (fit.plans_are die lt)
    ∙ ap {B = Bool} (λ (erases : ℕ). is_weak_in start.base.weak start.base.channel die sb erases)
    (fit.erases_are die sb lt within good)

-- ---- superblocks that aren't bad

-- a superblock is bad by its state where it is by its past
pub bad_by_state : (bad picked : Bool) (slots used : ℕ) → is_bad (state_by bad picked slots used) ≡ bad
bad_by_state true picked slots used = refl
bad_by_state false true slots used = refl
bad_by_state false false slots used = by_tests (used == 0) (used == slots)
  where
    by_tests : (a b : Bool) → is_bad (if a then SbState.Free else if b then SbState.Sealed else SbState.Frontier) ≡ false
    by_tests true b = refl
    by_tests false true = refl
    by_tests false false = refl

pub bad_is : (base : ChannelBase) (past : List Entry) (sb : ℕ) → is_bad (state_of base past sb) ≡ is_bad_superblock base past sb
bad_is base past sb = bad_by_state (is_bad_superblock base past sb) (is_picked base past sb) (slots_in base)
    (used_of base past sb)

-- the next slot's superblock isn't bad, and neither is the victim
pub next_is_good : (base : ChannelBase) (past : List Entry) (slot : Slot) → next_slot base past ≡ Some slot
    → IsTrue (has_slot base.shape slot) → IsFalse (is_bad (state_of base past slot.sb))
next_is_good base past slot next range = bad_is base past slot.sb ∙ next_sound base past slot next range

pub victim_there : (base : ChannelBase) (past : List Entry) (sb : ℕ) → victim_of base past ≡ Some sb
    → (sb < base.shape.superblocks) × IsFalse (is_bad (state_of base past sb))
victim_there base past sb victim =
    let found : (sb < base.shape.superblocks) × (is_victim (state_of base past sb) ≡ true) =
    found_block base past is_victim_block sb victim in
    (found.0, victim_good (state_of base past sb) found.1)

-- ---- a program

-- the two dies that a program of a slot may use
pub record AreDiesOf (shape : Shape) (slot : Slot) : Type 0 where
  pub slot_die : (page_of_slot shape slot).die < shape.dies
  pub parity : (parity_of_slot shape slot).die < shape.dies
  pub superblock : slot.sb < shape.superblocks

pub are_dies_of : (shape : Shape) (slot : Slot) → IsTrue (has_slot shape slot) → AreDiesOf shape slot
are_dies_of shape slot range =
    let there : HasPlaces shape slot = has_places shape slot range in
    let place : IsPlace shape.dies shape.superblocks shape.pages (page_of_slot shape slot) =
    place_in_range shape (page_of_slot shape slot) there.slot_range in
    record {
      slot_die = place.die;
      parity = (place_in_range shape (parity_of_slot shape slot) there.parity_range).die;
      superblock = place.superblock;
    }

-- none of two dies, or of one, is weak
none_of_two : (weak : ℕ → Bool) (last : Bool) (first second : ℕ) → weak first ≡ false → (last ≡ true → weak second ≡ false)
    → not (list_any weak (first ∷ (if last then second ∷ [] else []))) ≡ true
none_of_two weak true first second e f = λ i. not (e i || (f refl i || false))
none_of_two weak false first second e f = λ i. not (e i || false)

-- a program that passed met no weak block
pub programmed_none_weak : (start : Start) (contents : List (Tag × List ℕ)) (past : List Entry) (slot : Slot)
    (word total sum : List ℕ) (old new : List DieState)
    → DiesFit start contents past old sum → next_slot start.base past ≡ Some slot → IsTrue (has_slot start.base.shape slot)
    → IsProgrammed start.base.shape slot word total old new
    → IsTrue (is_none_weak start.base past slot.sb (dies_of_program start.base.shape.dies slot))
programmed_none_weak start contents past slot word total sum old new fit next range is =
    let dies : AreDiesOf start.base.shape slot = are_dies_of start.base.shape slot range in
    let good : IsFalse (is_bad (state_of start.base past slot.sb)) = next_is_good start.base past slot next range in
    none_of_two (is_weak start.base past slot.sb) (is_last_of_stripe start.base.shape.dies slot.index)
    (page_of_slot start.base.shape slot).die (parity_of_slot start.base.shape slot).die
    (sym (weak_is start contents past old sum (page_of_slot start.base.shape slot).die slot.sb fit dies.slot_die dies.superblock
    good) ∙ is.slot_page.not_weak)
    (λ last. sym (weak_is start contents past old sum
    (parity_of_slot start.base.shape slot).die slot.sb fit dies.parity dies.superblock good) ∙ (is.parity_page last).not_weak)

-- the first of the dies that a program uses may fail, or the second where the first doesn't
first_may_fail : (may weak other : Bool) (first die : ℕ) → first ≡ die → may ≡ true
    → (if first == die then may else not weak && other) ≡ true
first_may_fail may weak other first die here e = λ i. if here_test first die here i then e i else not weak && other
  where
    here_test : (a b : ℕ) → a ≡ b → (a == b) ≡ true
    here_test a b e = grind (arith, nat_tests)

second_may_fail : (base : ChannelBase) (past : List Entry) (sb first second die : ℕ) (fault last : Bool) → first ≢ die
    → second ≡ die → last ≡ true → is_weak base past sb first ≡ false
    → (fault || is_weak base past sb second) ≡ true
    → may_fail_on base past sb (first ∷ (if last then second ∷ [] else [])) die fault ≡ true
second_may_fail base past sb first second die fault last other here is_last weak may =
    (λ i. may_fail_on base past sb (first ∷ (if is_last i then second ∷ [] else [])) die fault)
    ∙ (λ i. if other_test first die other i then fault || is_weak base past sb first else not
    (weak i) && may_fail_on base past sb (second ∷ []) die fault)
    ∙ first_may_fail (fault || is_weak base past sb second) (is_weak base past sb second) false second die here may
  where
    other_test : (a b : ℕ) → a ≢ b → (a == b) ≡ false
    other_test a b e = grind (arith, nat_tests)

-- a program that stopped, stopped where it may fail
pub stopped_may_fail : (start : Start) (contents : List (Tag × List ℕ)) (past : List Entry) (slot : Slot) (word sum : List ℕ)
    (die : ℕ) (fault : Bool) (P : DieState → DieState → Type 0) (old new : List DieState)
    → DiesFit start contents past old sum → next_slot start.base past ≡ Some slot → IsTrue (has_slot start.base.shape slot)
    → ((other : ℕ) → P (die_at old other) (die_at new other) → (fault || is_weak_at old other slot.sb) ≡ true)
    → StopsProgram start.base.shape slot word die P old new
    → IsTrue (may_fail_on start.base past slot.sb (dies_of_program start.base.shape.dies slot) die fault)
stopped_may_fail start contents past slot word sum die fault P old new fit next range cause stops = elim (stops.stops) [
  | inl first ↦
      first_may_fail (fault || is_weak start.base past slot.sb slot_die)
      (is_weak start.base past slot.sb slot_die) _ slot_die die (sym first.is_slot)
      (may slot_die dies.slot_die (subst (λ (n : ℕ). P (die_at old n) (die_at new n)) first.is_slot first.stopped))
  | inr second ↦
      second_may_fail start.base past slot.sb slot_die parity die fault (is_last_of_stripe start.base.shape.dies slot.index)
      (λ e. dies_differ start.base.shape slot range (e ∙ second.is_parity)) (sym second.is_parity) second.is_last
      (sym (weak_is start contents past old sum slot_die slot.sb fit dies.slot_die dies.superblock good)
      ∙ second.slot_page.not_weak)
      (may parity dies.parity (subst (λ (n : ℕ). P (die_at old n) (die_at new n)) second.is_parity second.stopped))
]
  where
    slot_die : ℕ
    slot_die = (page_of_slot start.base.shape slot).die

    parity : ℕ
    parity = (parity_of_slot start.base.shape slot).die

    dies : AreDiesOf start.base.shape slot
    dies = are_dies_of start.base.shape slot range

    good : IsFalse (is_bad (state_of start.base past slot.sb))
    good = next_is_good start.base past slot next range

    may : (other : ℕ) → other < start.base.shape.dies → P (die_at old other) (die_at new other)
        → (fault || is_weak start.base past slot.sb other) ≡ true
    may other lt stopped =
        ap {B = Bool} (λ (b : Bool). fault || b)
        (sym (weak_is start contents past old sum other slot.sb fit lt dies.superblock good)) ∙ cause other stopped

-- ---- an erase

-- no die of a range is weak where none is
range_none : (weak : ℕ → Bool) (from count : ℕ) → ((die : ℕ) → die < from + count → weak die ≡ false)
    → list_any weak (range_with_len from count) ≡ false
range_none weak from zero none = refl
range_none weak from (suc count) none =
    ap {B = Bool} (λ (b : Bool). b || list_any weak (range_with_len (from + 1) count)) (none from (omega arith))
    ∙ range_none weak (from + 1) count (λ die lt. none die (omega arith))

-- the first dies that an erase went over aren't weak
below_not_weak : (start : Start) (contents : List (Tag × List ℕ)) (past : List Entry) (bound sb : ℕ) (sum : List ℕ)
    (old new : List DieState)
    → DiesFit start contents past old sum → victim_of start.base past ≡ Some sb → bound ≤ start.base.shape.dies
    → ErasesBelow bound sb old new
    → (die : ℕ) → die < bound → is_weak start.base past sb die ≡ false
below_not_weak start contents past bound sb sum old new fit victim le below die lt =
    let there : (sb < start.base.shape.superblocks) × IsFalse (is_bad (state_of start.base past sb)) =
    victim_there start.base past sb victim in
    sym (weak_is start contents past old sum die sb fit (omega arith) there.0 there.1) ∙ (below die lt).not_weak

-- an erase that passed met no weak block
pub erased_none_weak : (start : Start) (contents : List (Tag × List ℕ)) (past : List Entry) (sb : ℕ) (sum : List ℕ)
    (old new : List DieState)
    → DiesFit start contents past old sum → victim_of start.base past ≡ Some sb → ErasesFirst start.base.shape.dies sb old new
    → IsTrue (is_none_weak start.base past sb (dies_in start.base))
erased_none_weak start contents past sb sum old new fit victim is =
    ap {B = Bool} (λ (b : Bool). not b)
    (range_none (is_weak start.base past sb) 0 start.base.shape.dies
    (λ die lt. below_not_weak start contents past start.base.shape.dies sb sum old new fit victim (omega arith) is.below die
    (omega arith)))

-- the dies of a range may fail at one where none before it is weak
range_may_fail : (base : ChannelBase) (past : List Entry) (sb die from count : ℕ) (fault : Bool) → from ≤ die
    → die < from + count
    → ((other : ℕ) → other < die → is_weak base past sb other ≡ false) → (fault || is_weak base past sb die) ≡ true
    → may_fail_on base past sb (range_with_len from count) die fault ≡ true
range_may_fail base past sb die from zero fault le lt none may = absurd (omega arith)
range_may_fail base past sb die from (suc count) fault le lt none may = elim (cases_eq from die) [
  | inl here ↦
      first_may_fail (fault || is_weak base past sb from) (is_weak base past sb from)
      (may_fail_on base past sb (range_with_len (from + 1) count) die fault) from die here
      (subst (λ (n : ℕ). (fault || is_weak base past sb n) ≡ true) (sym here) may)
  | inr other ↦
      (λ i. if other_test from die other i then fault || is_weak base past sb from else not
      (none from (lower from die le other) i) && may_fail_on base past sb (range_with_len (from + 1) count) die fault)
      ∙ range_may_fail base past sb die (from + 1) count fault (let less : from < die = lower from die le other in omega arith)
      (omega arith) none may
]
  where
    other_test : (a b : ℕ) → a ≢ b → (a == b) ≡ false
    other_test a b e = grind (arith, nat_tests)

    lower : (a b : ℕ) → a ≤ b → a ≢ b → a < b
    lower a b le differ = grind (arith, le, differ)

-- an erase that stopped, stopped where it may fail
pub unerased_may_fail : (start : Start) (contents : List (Tag × List ℕ)) (past : List Entry) (sb : ℕ) (sum : List ℕ) (die : ℕ)
    (fault : Bool) (P : DieState → DieState → Type 0) (old new : List DieState)
    → DiesFit start contents past old sum → victim_of start.base past ≡ Some sb
    → ((other : ℕ) → P (die_at old other) (die_at new other) → (fault || is_weak_at old other sb) ≡ true)
    → StopsErase start.base.shape.dies sb die P old new
    → IsTrue (may_fail_on start.base past sb (dies_in start.base) die fault)
unerased_may_fail start contents past sb sum die fault P old new fit victim cause stops =
    let there : (sb < start.base.shape.superblocks) × IsFalse (is_bad (state_of start.base past sb)) =
    victim_there start.base past sb victim in
    let low : die < start.base.shape.dies = stops.in_range in
    range_may_fail start.base past sb die 0 start.base.shape.dies fault (omega arith) (omega arith)
    (below_not_weak start contents past die sb sum old new fit victim (omega arith) stops.below)
    (ap {B = Bool} (λ (b : Bool). fault || b) (sym (weak_is start contents past old sum die sb fit low there.0 there.1))
    ∙ cause die stops.stopped)

-- ---- why an operation stopped

-- a block that answered FAIL is weak, and a call that failed may have done so anywhere
pub refused_is_weak : (sb : ℕ) (old new : List DieState) (die : ℕ) → RefusesBlock sb (die_at old die) (die_at new die)
    → (false || is_weak_at old die sb) ≡ true
refused_is_weak sb old new die refuses = refuses.weak

pub fault_may_be : (sb : ℕ) (old new : List DieState) (die : ℕ) → FaultsDie (die_at old die) (die_at new die)
    → (true || is_weak_at old die sb) ≡ true
fault_may_be sb old new die faults = refl
