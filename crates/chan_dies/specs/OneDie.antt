-- What may an operation leave of a die? It keeps the die's blocks and counts, or a fault is counted as work, or the blocks
-- are others now. Of the read level and
-- the kept status nothing is said.
use Rattle.std.specs.Prelude.{ℕ, ◌≡◌, ◌≢◌, IsTrue, IsFalse, List, length, Option, Some, None}
use Rattle.ssd_geo.specs.BlockCells.{BlockCells}
use Rattle.ssd_geo.specs.Faults.{Rose}
use Rattle.onfi_cmd.specs.DieState.{DieState, with_aged, with_erased, with_page}
use Rattle.onfi_cmd.specs.declared.plan.DiePlan.{DiePlan}
use Rattle.chan_dies.specs.DiesState.{DiesState, blocks_in, die_at, fresh_in, has_weak}

-- a die's plan, blocks and counts stay
pub record KeepsDie (old new : DieState) : Type 0 where
  pub plan_stays : new.plan ≡ old.plan
  pub told_stay : new.told ≡ old.told
  pub works_stay : new.work_count ≡ old.work_count
  pub loads_stay : new.load_count ≡ old.load_count

-- a die counted a fault as work, and all else of it stays
pub record FaultsDie (old new : DieState) : Type 0 where
  pub plan_stays : new.plan ≡ old.plan
  pub told_stay : new.told ≡ old.told
  pub rose : Rose old.work_count new.work_count
  pub loads_stay : new.load_count ≡ old.load_count

-- a die has these blocks now, and its plan and counts stay
pub record HoldsNow (old new : DieState) (blocks : List BlockCells) : Type 0 where
  pub plan_stays : new.plan ≡ old.plan
  pub told_are : new.told ≡ Some blocks
  pub works_stay : new.work_count ≡ old.work_count
  pub loads_stay : new.load_count ≡ old.load_count

-- a block answered FAIL: it is weak, and nothing changed
pub record RefusesBlock (sb : ℕ) (old new : DieState) : Type 0 where
  pub weak : IsTrue (has_weak old sb)
  pub keeps : KeepsDie old new

-- a page of a die was programmed with a word, in a block that wasn't weak
pub record PutsPage (sb page : ℕ) (word : List ℕ) (old new : DieState) : Type 0 where
  pub not_weak : IsFalse (has_weak old sb)
  pub holds : HoldsNow old new (with_page (blocks_in old) sb (fresh_in old sb page word))

-- a block of a die was erased, and wasn't weak
pub record ErasesBlock (sb : ℕ) (old new : DieState) : Type 0 where
  pub not_weak : IsFalse (has_weak old sb)
  pub holds : HoldsNow old new (with_erased (blocks_in old) sb)

-- the blocks with one aged by an amount, as the die's law tells; without a plan they stay
abbrev pub aged_by : Option DiePlan → List BlockCells → ℕ → ℕ → List BlockCells
aged_by (Some plan) blocks sb amount = with_aged plan.law.erased blocks sb amount
aged_by None blocks sb amount = blocks

-- a block of a die was aged
abbrev pub AgesBlock : ℕ → ℕ → DieState → DieState → Type 0
AgesBlock sb amount old new = HoldsNow old new (aged_by old.plan (blocks_in old) sb amount)

-- the dies but one are as they were
abbrev pub OthersStay : ℕ → List DieState → List DieState → Type 0
OthersStay die old new = (other : ℕ) → other ≢ die → die_at new other ≡ die_at old other

-- this became of one die, and the others stay
pub record ChangesDie (die : ℕ) (P : DieState → DieState → Type 0) (old new : List DieState) : Type 0 where
  pub count_stays : length new ≡ length old
  pub others : OthersStay die old new
  pub changed : P (die_at old die) (die_at new die)

-- the same, and the sizes and the running sum stay too
pub record ChangesOneDie (die : ℕ) (P : DieState → DieState → Type 0) (old new : DiesState) : Type 0 where
  pub shape_stays : new.shape ≡ old.shape
  pub sum_stays : new.sum ≡ old.sum
  pub dies : ChangesDie die P old.dies new.dies
