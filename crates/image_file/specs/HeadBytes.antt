-- In which parts are the bytes of a head written? The sizes with the two numbers among them, what stands behind them in
-- fixed places, the read levels and the base matrix, and the lists of blocks, each behind its number.
use Rattle.std.specs.Prelude.{ℕ, ◌++◌, List, length, flat_map}
use Rattle.std.specs.Int.{w8, w16, w32, w64, to_le_bytes}
use Rattle.ssd_formats.specs.Fields.{bytes_of_signed}
use Rattle.ssd_formats.specs.ImageHead.{Head, beginning, weak_bytes, bad_bytes}
use Rattle.ssd_geo.specs.Limits.{Sizes}
use Rattle.ssd_geo.specs.declared.cell_law.CellLaw.{CellLaw}
use Rattle.ssd_geo.specs.declared.weak.Weak.{Weak}

-- the bytes up to the rows: the sizes, and the numbers of read levels and iterations among them
unfoldable pub size_bytes : Sizes → ℕ → ℕ → List ℕ
size_bytes sizes levels iterations =
    beginning ++
    to_le_bytes w8 sizes.words ++
    to_le_bytes w8 sizes.channels ++
    to_le_bytes w8 sizes.dies ++
    to_le_bytes w16 sizes.superblocks ++
    to_le_bytes w16 sizes.pages ++
    to_le_bytes w16 sizes.z ++
    to_le_bytes w8 sizes.mb ++
    to_le_bytes w8 sizes.nb ++
    to_le_bytes w8 levels ++
    to_le_bytes w8 iterations ++
    to_le_bytes w32 sizes.bytes ++
    to_le_bytes w32 sizes.rows

-- the bytes behind the rows, up to the read levels: the law of cell levels, the session within it, and the soft step
unfoldable pub law_bytes : CellLaw → ℕ → ℕ → List ℕ
law_bytes law step session =
    to_le_bytes w64 law.seed ++
    to_le_bytes w32 session ++
    bytes_of_signed law.erased ++
    bytes_of_signed law.programmed ++
    to_le_bytes w16 law.spread ++
    to_le_bytes w16 step

-- the bytes of the weak and of the bad blocks
abbrev pub weak_list_bytes : List Weak → List ℕ
weak_list_bytes weak = to_le_bytes w16 (length weak) ++ flat_map weak_bytes weak

abbrev pub bad_list_bytes : List (ℕ × ℕ) → List ℕ
bad_list_bytes bad = to_le_bytes w16 (length bad) ++ flat_map bad_bytes bad

-- the bytes of fixed places, those of the read levels and the base matrix, and those of the blocks
unfoldable pub fixed_bytes : Head → List ℕ
fixed_bytes head =
    size_bytes head.sizes (length head.read_levels) head.iterations ++ law_bytes head.law head.step head.session

unfoldable pub code_bytes : Head → List ℕ
code_bytes head = flat_map bytes_of_signed head.read_levels ++ flat_map bytes_of_signed head.entries

unfoldable pub block_bytes : Head → List ℕ
block_bytes head = weak_list_bytes head.weak ++ bad_list_bytes head.bad
