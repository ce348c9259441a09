-- What do the dies of a channel hold? Each die is mounted as the die of its number and tells its blocks; beside the dies
-- stands the running sum of the channel's open stripe.
use Rattle.std.specs.Prelude.{ℕ, ◌≡◌, ◌<◌, Bool, true, false, is_some, List, [], length, Option, Some, None}
use Rattle.std.specs.Prelude.{slice_index_or, ℤ, pos}
use Rattle.std.specs.Option.{unwrap_or}
use Rattle.ssd_geo.specs.BlockCells.{BlockCells, cells_at}
use Rattle.ssd_geo.specs.declared.place.Place.{Place}
use Rattle.ssd_geo.specs.declared.shape.Shape.{Shape}
use Rattle.onfi_cmd.specs.DieCalls.{IsMountedAnd, IsPlan}
use Rattle.onfi_cmd.specs.DieState.{DieState, is_weak, levels_of_page, programmed_in, programmed_levels, status_passed}
use Rattle.onfi_cmd.specs.declared.plan.DiePlan.{DiePlan}

-- what contracts see of the dies of a channel: the sizes of the drive, the dies in order, and the running sum
pub record DiesState : Type 0 where
  pub shape : Shape
  pub dies : List DieState
  pub sum : List ℕ

-- a die that isn't there: it is not mounted, and tells nothing
abbrev pub no_die : DieState
no_die = record {
  plan = None;
  told = None;
  read_level = pos 0;
  last_status = status_passed;
  work_count = 0;
  load_count = 0;
}

-- the die with this number
abbrev pub die_at : List DieState → ℕ → DieState
die_at dies die = slice_index_or dies die no_die

-- the blocks that a die tells: none where it doesn't tell
abbrev pub blocks_in : DieState → List BlockCells
blocks_in state = unwrap_or state.told []

abbrev pub blocks_told : List DieState → ℕ → List BlockCells
blocks_told dies die = blocks_in (die_at dies die)

-- how many pages are programmed in the block of a place
abbrev pub programmed_at : List DieState → Place → ℕ
programmed_at dies place = programmed_in (blocks_told dies place.die) place.sb

-- what is known of a die by its plan alone; a die without a plan has no levels, and no block of it is weak
abbrev pub levels_by : Option DiePlan → List BlockCells → ℕ → ℕ → List ℤ
levels_by (Some plan) blocks sb page = levels_of_page plan blocks sb page
levels_by None blocks sb page = []

abbrev pub programmed_by : Option DiePlan → List BlockCells → ℕ → ℕ → List ℕ → List ℤ
programmed_by (Some plan) blocks sb page word = programmed_levels plan blocks sb page word
programmed_by None blocks sb page word = []

abbrev pub is_weak_by : Option DiePlan → List BlockCells → ℕ → Bool
is_weak_by (Some plan) blocks sb = is_weak plan sb (cells_at blocks sb).erases
is_weak_by None blocks sb = false

-- the levels of a page of a die
abbrev pub levels_in : DieState → ℕ → ℕ → List ℤ
levels_in state sb page = levels_by state.plan (blocks_in state) sb page

abbrev pub levels_at : List DieState → Place → List ℤ
levels_at dies place = levels_in (die_at dies place.die) place.sb place.page

-- the levels that a program of a word leaves in a page of a die
abbrev pub fresh_in : DieState → ℕ → ℕ → List ℕ → List ℤ
fresh_in state sb page word = programmed_by state.plan (blocks_in state) sb page word

-- whether a block of a die is weak
abbrev pub has_weak : DieState → ℕ → Bool
has_weak state sb = is_weak_by state.plan (blocks_in state) sb

abbrev pub is_weak_at : List DieState → ℕ → ℕ → Bool
is_weak_at dies die sb = has_weak (die_at dies die) sb

-- a plan is that of the die of a number
pub record IsPlanOf (shape : Shape) (number : ℕ) (plan : DiePlan) : Type 0 where
  pub is_plan : IsPlan plan
  pub shape_is : plan.shape ≡ shape
  pub number_is : plan.die ≡ number

-- a die is mounted as the die of a number, and tells its blocks
pub record IsMountedDie (shape : Shape) (number : ℕ) (state : DieState) : Type 0 where
  pub mounted : IsMountedAnd state (IsPlanOf shape number)
  pub tells : is_some state.told ≡ true

-- all dies of a channel are mounted
pub record AreMounted (shape : Shape) (dies : List DieState) : Type 0 where
  pub count_is : length dies ≡ shape.dies
  pub each : (die : ℕ) → die < shape.dies → IsMountedDie shape die (die_at dies die)
