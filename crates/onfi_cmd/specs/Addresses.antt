-- Which row address does a page have, and which parameters stand for a read level? A row address is the page and,
-- above the least number of bits that every page number fits in, the block; ONFI leaves these widths to the
-- die. The read level at a feature address of its own, low byte first in P1 and P2, is this project's.
use Rattle.std.specs.Prelude.{ℕ, ◌+◌, ◌*◌, ◌/◌, ◌%◌, nat_le, if◌then◌else◌, List, [], ◌∷◌, slice_index, ℤ}
use Rattle.std.specs.Int.{w16, cast_signed, cast_unsigned}

-- the least power of two that is at least a number of pages, which is at most 256
abbrev pub stride_of : ℕ → ℕ
stride_of pages =
    if nat_le pages 2 then 2 else
    if nat_le pages 4 then 4 else
    if nat_le pages 8 then 8 else
    if nat_le pages 16 then 16 else
    if nat_le pages 32 then 32 else
    if nat_le pages 64 then 64 else
    if nat_le pages 128 then 128 else 256

-- the row address of a page of a block, in a die with so many pages a block
abbrev pub row_of_page : ℕ → ℕ → ℕ → ℕ
row_of_page pages sb page = page + sb * stride_of pages

-- the block and the page of a row address
abbrev pub block_of_row : ℕ → ℕ → ℕ
block_of_row pages row = row / stride_of pages

abbrev pub page_of_row : ℕ → ℕ → ℕ
page_of_row pages row = row % stride_of pages

-- the feature address of the read level
abbrev pub read_level_address : ℕ
read_level_address = 0x89

-- the four parameters of a read level: an i16 with its low byte first, and two zeros
abbrev pub params_of_level : ℤ → List ℕ
params_of_level level = cast_unsigned w16 level % 256 ∷ cast_unsigned w16 level / 256 ∷ 0 ∷ 0 ∷ []

-- the read level of four parameters
abbrev pub level_of_params : List ℕ → ℤ
level_of_params params = cast_signed w16 (slice_index params 0 + 256 * slice_index params 1)
