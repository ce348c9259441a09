-- How does a simulated die keep its cells? The levels of all pages stand in one list, block after block, whether
-- programmed or not; beside them stand the number of programmed pages and the erases of each block.
use Rattle.std.specs.Prelude.{◌≡◌, ℕ, ◌+◌, ◌*◌, ◌<◌, ◌≤◌, List, map, length, take, drop, slice_index, ℤ}
use Rattle.std.specs.List.{range_with_len}
use Rattle.ssd_geo.specs.BlockCells.{BlockCells}

-- what a store stands for: its blocks, with how many pages a block and how many cells a page has
pub record Stored : Type 0 where
  pub pages : ℕ
  pub cells : ℕ
  pub blocks : List BlockCells

-- the levels of page q, counted through all blocks
abbrev pub kept_page : ℕ → List ℤ → ℕ → List ℤ
kept_page cells levels q = take cells (drop (q * cells) levels)

-- the programmed pages of a block
abbrev pub kept_pages : ℕ → ℕ → List ℤ → ℕ → ℕ → List (List ℤ)
kept_pages pages cells levels sb programmed =
    map (λ page. kept_page cells levels (sb * pages + page)) (range_with_len 0 programmed)

-- a block
abbrev pub kept_block : ℕ → ℕ → List ℕ → List ℕ → List ℤ → ℕ → BlockCells
kept_block pages cells programmed erases levels sb = record {
  pages = kept_pages pages cells levels sb (slice_index programmed sb);
  erases = slice_index erases sb;
}

-- all blocks
abbrev pub kept_blocks : ℕ → ℕ → List ℕ → List ℕ → List ℤ → List BlockCells
kept_blocks pages cells programmed erases levels =
    map (kept_block pages cells programmed erases levels) (range_with_len 0 (length programmed))

-- the lists belong together, and no block has more programmed pages than it has pages
pub record IsKept (pages cells : ℕ) (programmed erases : List ℕ) (levels : List ℤ) : Type 0 where
  pub same_blocks : length erases ≡ length programmed
  pub all_levels : length levels ≡ length programmed * pages * cells
  pub most : (k : ℕ) → k < length programmed → slice_index programmed k ≤ pages
