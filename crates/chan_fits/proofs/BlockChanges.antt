-- What programs, erases and ageing leave of the blocks that each die tells.
use Rattle.std.proofs.Common.{◌≡◌, ◌≢◌, ℕ, ◌+◌, ◌<◌, Bool, true, false, List, [], ◌∷◌, ◌++◌, ℤ, length, refl, ap, sym, ◌∙◌}
use Rattle.std.proofs.Common.{subst, Option, arith, length-set, inl, inr}
use Rattle.std.specs.Prelude.{unwrap_or}
use Rattle.std.proofs.lemmas.Bool.{cases_eq, cases_lt}
use Rattle.ssd_geo.specs.BlockCells.{BlockCells, cells_at}
use Rattle.ssd_geo.specs.Stripe.{is_last_of_stripe}
use Rattle.ssd_geo.specs.declared.place.Place.{Place}
use Rattle.ssd_geo.specs.declared.shape.Shape.{Shape}
use Rattle.ssd_geo.specs.declared.slot.Slot.{Slot}
use Rattle.onfi_cmd.specs.DieState.{DieState, with_erased, with_page}
use Rattle.chan_dies.specs.DiesState.{blocks_in, blocks_told, die_at, fresh_in}
use Rattle.chan_dies.specs.Erasing.{ErasesBelow, StopsErase}
use Rattle.chan_dies.specs.OneDie.{FaultsDie, HoldsNow, KeepsDie}
use Rattle.chan_dies.specs.Programming.{IsProgrammed, PutsAt, StopsProgram, page_of_slot, parity_of_slot}
use Rattle.chan_fits.proofs.ToldBlocks.{erased_elsewhere, put_elsewhere}

-- the blocks of a die but one are as they were, and as many
pub record KeepsOtherBlocks (sb : ℕ) (old new : List BlockCells) : Type 0 where
  pub as_many : length new ≡ length old
  pub elsewhere : (other : ℕ) → other ≢ sb → cells_at new other ≡ cells_at old other

pub same_blocks : (sb : ℕ) (old new : List BlockCells) → new ≡ old → KeepsOtherBlocks sb old new
same_blocks sb old new same = record {
  as_many = ap {B = ℕ} (λ (blocks : List BlockCells). length blocks) same;
  elsewhere = λ other differ. ap {B = BlockCells} (λ (blocks : List BlockCells). cells_at blocks other) same;
}

pub page_blocks : (sb : ℕ) (old new : List BlockCells) (levels : List ℤ) → new ≡ with_page old sb levels
    → KeepsOtherBlocks sb old new
page_blocks sb old new levels is =
    let to : BlockCells = record { pages = (cells_at old sb).pages ++ levels ∷ []; erases = (cells_at old sb).erases } in
    record {
      as_many = ap {B = ℕ} (λ (blocks : List BlockCells). length blocks) is ∙ length-set old sb to;
      elsewhere = λ other differ. ap {B = BlockCells} (λ (blocks : List BlockCells). cells_at blocks other) is
          ∙ put_elsewhere old sb other to differ;
    }

pub erased_blocks : (sb : ℕ) (old new : List BlockCells) → new ≡ with_erased old sb → KeepsOtherBlocks sb old new
erased_blocks sb old new is =
    let to : BlockCells = record { pages = []; erases = (cells_at old sb).erases + 1 } in
    record {
      as_many = ap {B = ℕ} (λ (blocks : List BlockCells). length blocks) is ∙ length-set old sb to;
      elsewhere = λ other differ. ap {B = BlockCells} (λ (blocks : List BlockCells). cells_at blocks other) is
          ∙ erased_elsewhere old sb other differ;
    }

-- ---- what a die tells after an operation

pub told_now : (old new : DieState) (blocks : List BlockCells) → HoldsNow old new blocks → blocks_in new ≡ blocks
told_now old new blocks holds = ap {B = List BlockCells} (λ (told : Option (List BlockCells)). unwrap_or told []) holds.told_are

pub told_kept : (old new : DieState) → KeepsDie old new → blocks_in new ≡ blocks_in old
told_kept old new keeps = ap {B = List BlockCells} (λ (told : Option (List BlockCells)). unwrap_or told []) keeps.told_stay

pub told_faulted : (old new : DieState) → FaultsDie old new → blocks_in new ≡ blocks_in old
told_faulted old new faults = ap {B = List BlockCells} (λ (told : Option (List BlockCells)). unwrap_or told []) faults.told_stay

-- a die that is as it was tells what it told
pub told_same : (old new : List DieState) (die : ℕ) → die_at new die ≡ die_at old die
    → blocks_told new die ≡ blocks_told old die
told_same old new die same = ap {B = List BlockCells} blocks_in same

-- what a die tells after a page was programmed
pub told_put : (place : Place) (word : List ℕ) (old new : List DieState) → PutsAt place word old new
    → blocks_told new place.die ≡ with_page (blocks_told old place.die) place.sb
    (fresh_in (die_at old place.die) place.sb place.page word)
told_put place word old new puts =
    told_now (die_at old place.die) (die_at new place.die)
    (with_page (blocks_told old place.die) place.sb (fresh_in (die_at old place.die) place.sb place.page word)) puts.holds

-- ---- a program of a slot

-- a test doesn't give both answers
pub apart : (b : Bool) → b ≡ false → b ≡ true → ⊥
apart b e f = grind (arith, e, f)

-- what a die tells after a page was programmed in it, whatever the die is called
pub put_blocks : (place : Place) (word : List ℕ) (old new : List DieState) (die : ℕ) → die ≡ place.die
    → PutsAt place word old new
    → KeepsOtherBlocks place.sb (blocks_told old die) (blocks_told new die)
put_blocks place word old new die here puts =
    subst (λ (n : ℕ). KeepsOtherBlocks place.sb (blocks_told old n) (blocks_told new n)) (sym here)
    (page_blocks place.sb (blocks_told old place.die) (blocks_told new place.die)
    (fresh_in (die_at old place.die) place.sb place.page word) (told_put place word old new puts))

-- the other blocks of each die stay where a slot was programmed
pub programmed_blocks : (shape : Shape) (slot : Slot) (word sum : List ℕ) (old new : List DieState)
    → IsProgrammed shape slot word sum old new → (die : ℕ)
    → KeepsOtherBlocks slot.sb (blocks_told old die) (blocks_told new die)
programmed_blocks shape slot word sum old new is die = elim (cases_eq die (page_of_slot shape slot).die) [
  | inl here ↦ put_blocks (page_of_slot shape slot) word old new die here is.slot_page
  | inr other ↦ elim (cases_eq die (parity_of_slot shape slot).die) [
    | inl here ↦ by_last (is_last_of_stripe shape.dies slot.index) refl other here
    | inr far ↦
        same_blocks slot.sb (blocks_told old die) (blocks_told new die)
        (told_same old new die (is.others die other (λ last. far)))
  ]
]
  where
    by_last : (b : Bool) → is_last_of_stripe shape.dies slot.index ≡ b → die ≢ (page_of_slot shape slot).die
        → die ≡ (parity_of_slot shape slot).die
        → KeepsOtherBlocks slot.sb (blocks_told old die) (blocks_told new die)
    by_last true last other here = put_blocks (parity_of_slot shape slot) sum old new die here (is.parity_page last)
    by_last false e other here =
        same_blocks slot.sb (blocks_told old die) (blocks_told new die)
        (told_same old new die (is.others die other (λ last. absurd (apart (is_last_of_stripe shape.dies slot.index) e last))))

-- what holds of the die at which an operation stopped: it tells what it told
abbrev pub TellsTheSame : (DieState → DieState → Type 0) → Type 0
TellsTheSame P = (old new : DieState) → P old new → blocks_in new ≡ blocks_in old

-- and where a program stopped
pub stopped_blocks : (shape : Shape) (slot : Slot) (word : List ℕ) (die : ℕ) (P : DieState → DieState → Type 0)
    (old new : List DieState) → TellsTheSame P
    → StopsProgram shape slot word die P old new → (other : ℕ)
    → KeepsOtherBlocks slot.sb (blocks_told old other) (blocks_told new other)
stopped_blocks shape slot word die P old new tells stops other = elim (stops.stops) [
  | inl first ↦ elim (cases_eq other die) [
    | inl here ↦ stopped_here first.stopped here
    | inr far ↦ same_blocks slot.sb (blocks_told old other) (blocks_told new other)
        (told_same old new other (first.others other far))
  ]
  | inr second ↦ elim (cases_eq other die) [
    | inl here ↦ stopped_here second.stopped here
    | inr far ↦ elim (cases_eq other (page_of_slot shape slot).die) [
      | inl here ↦ put_blocks (page_of_slot shape slot) word old new other here second.slot_page
      | inr elsewhere ↦
          same_blocks slot.sb (blocks_told old other) (blocks_told new other)
          (told_same old new other (second.others other far elsewhere))
    ]
  ]
]
  where
    stopped_here : P (die_at old die) (die_at new die) → other ≡ die
        → KeepsOtherBlocks slot.sb (blocks_told old other) (blocks_told new other)
    stopped_here stopped here =
        subst (λ (n : ℕ). KeepsOtherBlocks slot.sb (blocks_told old n) (blocks_told new n)) (sym here)
        (same_blocks slot.sb (blocks_told old die) (blocks_told new die) (tells (die_at old die) (die_at new die) stopped))

-- ---- an erase of a superblock

pub erased_below : (bound sb : ℕ) (old new : List DieState) → ErasesBelow bound sb old new → (die : ℕ) → die < bound
    → blocks_told new die ≡ with_erased (blocks_told old die) sb
erased_below bound sb old new below die lt =
    told_now (die_at old die) (die_at new die) (with_erased (blocks_told old die) sb) (below die lt).holds

-- a die below a number, at it, or above it
pub by_order : (C : Type 0) (a b : ℕ) → (a < b → C) → (a ≡ b → C) → (b < a → C) → C
by_order C a b below at above = elim (cases_lt a b) [
  | inl lt ↦ below lt
  | inr le ↦ elim (cases_lt b a) [ inl more ↦ above more | inr most ↦ at (omega arith) ]
]

-- the other blocks of each die stay where an erase stopped
pub unerased_blocks : (count sb die : ℕ) (P : DieState → DieState → Type 0) (old new : List DieState) → TellsTheSame P
    → StopsErase count sb die P old new
    → (other : ℕ) → KeepsOtherBlocks sb (blocks_told old other) (blocks_told new other)
unerased_blocks count sb die P old new tells stops other =
    by_order (KeepsOtherBlocks sb (blocks_told old other) (blocks_told new other)) other die
    (λ lt. erased_blocks sb (blocks_told old other) (blocks_told new other) (erased_below die sb old new stops.below other lt))
    (λ here. subst (λ (n : ℕ). KeepsOtherBlocks sb (blocks_told old n) (blocks_told new n)) (sym here)
    (same_blocks sb (blocks_told old die) (blocks_told new die) (tells (die_at old die) (die_at new die) stops.stopped)))
    (λ more. same_blocks sb (blocks_told old other) (blocks_told new other)
    (told_same old new other (stops.above other (omega arith))))
