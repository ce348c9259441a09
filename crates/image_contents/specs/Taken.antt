-- What does a channel have once superblocks of its contents were taken over from an image? Each may stand in an image, and its
-- dies have their cells.
use Rattle.std.specs.Prelude.{◌≡◌, ℕ, ◌-◌, IsTrue, if◌then◌else◌, List, [], ◌++◌, length, map, replicate, slice_get, slice_set, Some}
use Rattle.ssd_geo.specs.BlockCells.{blank_cells}
use Rattle.drive_dies.specs.Mounting.{EachBecomes}
use Rattle.chan_dies.specs.DiesState.{blocks_in}
use Rattle.onfi_cmd.specs.DieState.{DieState}
use Rattle.ssd_formats.specs.ImageContents.{SavedBlock, are_saved_blocks, blocks_of_saved, cells_of_block, is_saved_block, is_stripe_open, sum_of_saved}
use Rattle.ssd_formats.specs.ImageHead.{Head}
use Rattle.ssd_geo.specs.declared.base.BlockBase.{BlockBase}

-- the dies and the sum after one superblock more was taken over, behind those before: it may stand in an image, each die has
-- its cells in the place of what it had there, and the sum is that of its open stripe, if it has one
pub record TakesBlock (head : Head) (channel : ℕ) (before : List BlockBase) (saved : SavedBlock) (olds news : List DieState) (sum_before sum : List ℕ) : Type 0 where
  pub is_saved :
      (earlier : List SavedBlock) → before ≡ blocks_of_saved earlier → IsTrue (is_saved_block head channel earlier saved)
  pub cells_are :
      EachBecomes
      (λ die old new. new.told ≡ Some (slice_set (blocks_in old) (length before) (cells_of_block die saved))) olds news
  pub sum_is : sum ≡ (if is_stripe_open head.sizes saved.block then saved.sum else sum_before)

-- so many superblocks were taken over: they may stand in an image, each die has their cells and blank blocks behind them, and
-- the sum is that of their open stripe, if one has one
pub record AreTaken (head : Head) (channel : ℕ) (saved : List SavedBlock) (dies : List DieState) (sum : List ℕ) : Type 0 where
  pub are_saved : IsTrue (are_saved_blocks head channel [] saved)
  pub cells_are :
      (number : ℕ) (die : DieState) → slice_get dies number ≡ Some die
      → die.told
      ≡ Some (map (cells_of_block number) saved ++ replicate (head.sizes.superblocks - length saved) blank_cells)
  pub sum_is : sum ≡ sum_of_saved head.sizes (record { blocks = saved; rows = [] })
