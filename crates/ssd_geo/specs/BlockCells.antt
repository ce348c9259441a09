-- What does a die tell of one of its blocks? A block is erased as a whole, and its pages are programmed in rising order
-- (Micheloni, Inside NAND Flash Memories), so its programmed pages are its first ones.
use Rattle.std.specs.Prelude.{ℕ, List, [], slice_index_or, ℤ}

-- how often a block was erased, and the levels of its programmed pages, in order from page 0
pub record BlockCells : Type 0 where
  pub erases : ℕ
  pub pages : List (List ℤ)

-- a block without programmed pages that was never erased
abbrev pub blank_cells : BlockCells
blank_cells = record { erases = 0; pages = [] }

-- the block with this number, among those of a die
abbrev pub cells_at : List BlockCells → ℕ → BlockCells
cells_at blocks sb = slice_index_or blocks sb blank_cells
