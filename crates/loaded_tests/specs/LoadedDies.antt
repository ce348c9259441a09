-- What do the dies hold of which superblock 0 was loaded? Each of its blocks was erased seven times, and has two pages with the
-- same levels. The other blocks are blank.
use Rattle.std.specs.Prelude.{ℕ, ◌≡◌, ◌<◌, List, [], ◌∷◌, length, replicate, ℤ, pos, negsuc, Some}
use Rattle.ssd_geo.specs.BlockCells.{BlockCells, blank_cells}
use Rattle.ssd_geo.specs.declared.cell_law.CellLaw.{CellLaw}
use Rattle.ssd_geo.specs.declared.shape.Shape.{Shape}
use Rattle.ssd_geo.specs.declared.weak.Weak.{Weak}
use Rattle.onfi_cmd.specs.DieState.{DieState}
use Rattle.chan_dies.specs.DiesState.{die_at}

-- cells without noise
abbrev pub quiet_law : CellLaw
quiet_law = record { erased = negsuc 99; programmed = pos 100; spread = 0; seed = 1 }

-- the blocks of a die, of which the first has two pages with these levels
abbrev pub loaded_cells : List ℤ → List BlockCells
loaded_cells levels = record { erases = 7; pages = levels ∷ levels ∷ [] } ∷ replicate 3 blank_cells

-- a die is mounted as the one of a number, and has these blocks
pub record HasBlocks (shape : Shape) (weak : List Weak) (number : ℕ) (blocks : List BlockCells) (state : DieState)
    : Type 0 where
  pub plan_is : state.plan ≡ Some (record { channel = 0; die = number; shape = shape; law = quiet_law; weak = weak })
  pub told_are : state.told ≡ Some blocks

-- the dies of the channel were loaded
pub record AreLoadedDies (shape : Shape) (weak : List Weak) (levels : List ℤ) (dies : List DieState) : Type 0 where
  pub count : length dies ≡ 3
  pub each : (die : ℕ) → die < 3 → HasBlocks shape weak die (loaded_cells levels) (die_at dies die)
