-- What becomes of a channel's dies where the pages of an image are loaded into them? Their plans, their read levels and their
-- counts of work stay. A die counts a load exactly where it fails, and then it is the one that the answer names.
use Rattle.std.specs.Prelude.{◌≡◌, ◌≢◌, ℕ, ℤ, ◌+◌, ◌<◌, ◌≤◌, IsTrue, is_some, List, length, map, slice_index_or, slice_set, Some, Result, Ok, Err}
use Rattle.ssd_geo.specs.BlockCells.{BlockCells, cells_at}
use Rattle.ssd_geo.specs.Faults.{Rose}
use Rattle.ssd_formats.specs.ImageContents.{are_pages}
use Rattle.chan_dies.specs.DiesState.{blocks_in}
use Rattle.drive_dies.specs.Mounting.{EachBecomes}
use Rattle.onfi_cmd.specs.DieCalls.{IsMountedAnd}
use Rattle.onfi_cmd.specs.DieState.{DieState}
use Rattle.ssd_geo.specs.declared.shape.Shape.{Shape}
use Rattle.image_file.specs.declared.stop.ReadStop.{ReadStop}
use Rattle.image_file.specs.declared.stop.ReadStop.TheVariants.{Fault as FaultAt, ReadFault, DieFailed, Memory}

-- the block of a die with a number, as the die tells it
abbrev pub block_of : ℕ → DieState → BlockCells
block_of sb die = cells_at (blocks_in die) sb

-- a die is mounted in a drive of a shape, and tells all its blocks
pub record IsDieIn (shape : Shape) (die : DieState) : Type 0 where
  pub mounted : IsMountedAnd die (λ plan. plan.shape ≡ shape)
  pub told_are : die.told ≡ Some (blocks_in die)
  pub count_is : length (blocks_in die) ≡ shape.superblocks

-- all of a die stays but its blocks and its count of loads
pub record KeepsPlan (old new : DieState) : Type 0 where
  pub plan_stays : new.plan ≡ old.plan
  pub read_level_stays : new.read_level ≡ old.read_level
  pub status_stays : new.last_status ≡ old.last_status
  pub works_stay : new.work_count ≡ old.work_count
  pub still_tells : is_some new.told ≡ is_some old.told

-- the count of loads of the die with a number, where one die was asked: it rose where the answer says that this die failed,
-- and is as it was at any other answer
abbrev pub CountsLoad : {X F : Type 0} → ℕ → ℕ → ℕ → Result X (ReadStop F) → Type 0
CountsLoad number before now (Ok value) = now ≡ before
CountsLoad number before now (Err (FaultAt at fault)) = now ≡ before
CountsLoad number before now (Err ReadFault) = now ≡ before
CountsLoad number before now (Err (DieFailed die)) = (die ≡ number) × Rose before now
CountsLoad number before now (Err Memory) = now ≡ before

-- the same of one die among others that were asked
abbrev pub CountsLoadAmong : {X F : Type 0} → ℕ → ℕ → ℕ → Result X (ReadStop F) → Type 0
CountsLoadAmong number before now (Ok value) = now ≡ before
CountsLoadAmong number before now (Err (FaultAt at fault)) = now ≡ before
CountsLoadAmong number before now (Err ReadFault) = now ≡ before
CountsLoadAmong number before now (Err (DieFailed die)) = (die ≡ number → Rose before now) × (die ≢ number → now ≡ before)
CountsLoadAmong number before now (Err Memory) = now ≡ before

-- a die that failed is one of so many from a first one on
abbrev pub NamesOne : {X F : Type 0} → ℕ → ℕ → Result X (ReadStop F) → Type 0
NamesOne first count (Ok value) = Unit {0}
NamesOne first count (Err (FaultAt at fault)) = Unit {0}
NamesOne first count (Err ReadFault) = Unit {0}
NamesOne first count (Err (DieFailed die)) = (first ≤ die) × (die < first + count)
NamesOne first count (Err Memory) = Unit {0}

-- what became of one of the dies that were asked
pub record BecomesLoaded {X F : Type 0} (result : Result X (ReadStop F)) (number : ℕ) (old new : DieState) : Type 0 where
  pub keeps : KeepsPlan old new
  pub counts : CountsLoadAmong number old.load_count new.load_count result

-- what became of the dies of a channel, whose first has this number in the drive
pub record BecomeLoaded {X F : Type 0} (first : ℕ) (olds news : List DieState) (result : Result X (ReadStop F)) : Type 0 where
  pub each : EachBecomes (λ number old new. BecomesLoaded result (first + number) old new) olds news
  pub names_one : NamesOne first (length olds) result

-- a die is as it was but for the cells of one of its blocks
pub record ChangesBlock (sb : ℕ) (old new : DieState) : Type 0 where
  pub keeps : KeepsPlan old new
  pub told_are : new.told ≡ Some (slice_set (blocks_in old) sb (block_of sb new))

-- the block of a die has so many erases and so many pages, each with a level for each of so many cells
pub record IsLoadedBlock (erases count cells : ℕ) (block : BlockCells) : Type 0 where
  pub erases_are : block.erases ≡ erases
  pub count_is : length block.pages ≡ count
  pub pages_are : IsTrue (are_pages cells block.pages)

-- a block of a die was loaded
pub record LoadsBlock (sb erases count cells : ℕ) (old new : DieState) : Type 0 where
  pub changes : ChangesBlock sb old new
  pub loaded : IsLoadedBlock erases count cells (block_of sb new)

-- the pages of a superblock, die by die
abbrev pub pages_in : ℕ → List DieState → List (List (List ℤ))
pages_in sb dies = map (λ die. (block_of sb die).pages) dies

-- one page more was loaded into a block of a die, which has a level for each of so many cells
pub record AddsPage (sb cells : ℕ) (old new : DieState) : Type 0 where
  pub changes : ChangesBlock sb old new
  pub erases_stay : (block_of sb new).erases ≡ (block_of sb old).erases
  pub one_more : length (block_of sb new).pages ≡ length (block_of sb old).pages + 1
  pub pages_are : IsTrue (are_pages cells (block_of sb old).pages) → IsTrue (are_pages cells (block_of sb new).pages)

-- the number of programmed pages of a die's block, by the die's number
abbrev pub count_at : List ℕ → ℕ → ℕ
count_at counts die = slice_index_or counts die 0
