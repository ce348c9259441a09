-- What becomes of dies whose levels are copied? They stay as they are. One whose call fails counts a fault as a load, and all
-- else of it stays.
use Rattle.std.specs.Prelude.{◌≡◌, ℕ, ◌+◌, ◌<◌, true, is_some, List, length, map, Result, Ok, Err}
use Rattle.ssd_geo.specs.BlockCells.{BlockCells}
use Rattle.ssd_geo.specs.Faults.{Rose}
use Rattle.chan_dies.specs.DiesState.{blocks_in, die_at}
use Rattle.chan_dies.specs.OneDie.{ChangesDie}
use Rattle.onfi_cmd.specs.DieCalls.{IsMountedAnd}
use Rattle.onfi_cmd.specs.DieState.{DieState}
use Rattle.ssd_geo.specs.declared.shape.Shape.{Shape}
use Rattle.contents_file.specs.declared.stop.WriteStop.{WriteStop}
use Rattle.contents_file.specs.declared.stop.WriteStop.TheVariants.{WriteFault, DieFailed}

-- a die is mounted in a drive of a shape, and tells its blocks
pub record TellsPages (shape : Shape) (die : DieState) : Type 0 where
  pub mounted : IsMountedAnd die (λ plan. plan.shape ≡ shape)
  pub tells : is_some die.told ≡ true

-- so it is with each die of a channel
pub record AllTellPages (shape : Shape) (dies : List DieState) : Type 0 where
  pub count_is : length dies ≡ shape.dies
  pub each : (die : ℕ) → die < shape.dies → TellsPages shape (die_at dies die)

-- the cells that dies tell, die by die
abbrev pub cells_told : List DieState → List (List BlockCells)
cells_told dies = map blocks_in dies

-- a die counted a fault as a load, and all else of it stays
pub record FaultsLoad (old new : DieState) : Type 0 where
  pub plan_stays : new.plan ≡ old.plan
  pub told_stay : new.told ≡ old.told
  pub read_level_stays : new.read_level ≡ old.read_level
  pub status_stays : new.last_status ≡ old.last_status
  pub works_stay : new.work_count ≡ old.work_count
  pub rose : Rose old.load_count new.load_count

-- what became of the die with this number in the drive, whose levels were copied
abbrev pub StaysOrFaults : {T : Type 0} → ℕ → DieState → DieState → Result T WriteStop → Type 0
StaysOrFaults number old new (Ok done) = new ≡ old
StaysOrFaults number old new (Err WriteFault) = new ≡ old
StaysOrFaults number old new (Err (DieFailed die)) = (die ≡ number) × FaultsLoad old new

-- the die with a number in the drive is the one of its channel, whose first die has another number, that failed
pub record FailsAt (first number : ℕ) (olds news : List DieState) : Type 0 where
  pub place : ℕ
  pub in_list : place < length olds
  pub number_is : number ≡ first + place
  pub fails : ChangesDie place FaultsLoad olds news

-- what became of the dies of a channel, whose first has this number in the drive
abbrev pub AllStayOrOneFaults : {T : Type 0} → ℕ → List DieState → List DieState → Result T WriteStop → Type 0
AllStayOrOneFaults first olds news (Ok done) = news ≡ olds
AllStayOrOneFaults first olds news (Err WriteFault) = news ≡ olds
AllStayOrOneFaults first olds news (Err (DieFailed die)) = FailsAt first die olds news
