-- In which parts is a superblock written? What stands before its pages, the pages, and the sum of its open stripe.
use Rattle.std.specs.Prelude.{ℕ, ℤ, ◌++◌, List, flat_map, length}
use Rattle.std.specs.Int.{w8, w16, w32, to_le_bytes}
use Rattle.ssd_formats.specs.ImageContents.{number_of_state}
use Rattle.ssd_geo.specs.declared.base.BlockBase.{BlockBase}

-- the base of a superblock: its state, its erases and its used slots
unfoldable pub base_bytes : BlockBase → List ℕ
base_bytes block =
    to_le_bytes w8 (number_of_state block.state) ++ to_le_bytes w32 block.erases ++ to_le_bytes w32 block.used

-- the number of programmed pages of one die
abbrev pub count_bytes : List (List ℤ) → List ℕ
count_bytes pages = to_le_bytes w16 (length pages)

-- what stands before the pages: the base, and the number of programmed pages of each die
unfoldable pub front_bytes : BlockBase → List (List (List ℤ)) → List ℕ
front_bytes block pages = base_bytes block ++ flat_map count_bytes pages
