-- On which dies are the calls tried, and what stays so from call to call? A small drive has one channel with three dies and
-- four superblocks of two pages, and words of 48 bytes.
use Rattle.std.specs.Prelude.{ℕ, ◌≡◌, ◌<◌, Some, replicate}
use Rattle.ssd_geo.specs.BlockCells.{blank_cells, cells_at}
use Rattle.ssd_geo.specs.Coding.{word_bytes_in}
use Rattle.ssd_geo.specs.declared.shape.Shape.{Shape}
use Rattle.onfi_cmd.specs.DieState.{DieState, programmed_in}
use Rattle.chan_dies.specs.DiesState.{DiesState, IsMountedDie, blocks_in, die_at}

-- the small sizes
pub record IsSmall (shape : Shape) : Type 0 where
  pub channels : shape.channels ≡ 1
  pub dies : shape.dies ≡ 3
  pub superblocks : shape.superblocks ≡ 4
  pub pages : shape.pages ≡ 2
  pub word : word_bytes_in shape ≡ 48

-- a die that was just mounted as the one of a number
pub record IsStartDie (shape : Shape) (number : ℕ) (state : DieState) : Type 0 where
  pub mounted : IsMountedDie shape number state
  pub told : state.told ≡ Some (replicate 4 blank_cells)

-- how often superblock 0's block of a die was erased, and how many pages of it are programmed
abbrev pub erases_in : DieState → ℕ
erases_in state = (cells_at (blocks_in state) 0).erases

abbrev pub pages_in : DieState → ℕ
pages_in state = programmed_in (blocks_in state) 0

-- dies of the small sizes whose blocks of superblock 0 were never erased
pub record AreTried (held : DiesState) : Type 0 where
  pub small : IsSmall held.shape
  pub unworn : (die : ℕ) → die < 3 → erases_in (die_at held.dies die) ≡ 0

-- no page of superblock 0 is programmed
abbrev pub AreUnprogrammed : DiesState → Type 0
AreUnprogrammed held = (die : ℕ) → die < 3 → pages_in (die_at held.dies die) ≡ 0

-- the dies before the first call
pub record IsTriedStart (held : DiesState) : Type 0 where
  pub tried : AreTried held
  pub unprogrammed : AreUnprogrammed held
