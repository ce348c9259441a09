-- Which sizes may a drive have? The limits are this project's own: they bound memory and keep every number of a
-- page in its type.
use Rattle.std.specs.Prelude.{ℕ, ◌≡◌, ◌≢◌, ◌+◌, ◌-◌, ◌*◌, ◌/◌, ◌%◌, ◌^◌, ◌≤◌, ◌==◌, nat_le, Bool, ℤ, pos, negsuc, int_le, not, ◌&&◌, ◌↔◌, List, [], ◌∷◌, Option, None, position}

-- the sizes of a drive, of its code and of its pages: the codewords of a page, channels, dies of each channel,
-- superblocks of each, pages of each block, lifting size, rows and columns of the base matrix, data bytes of a page, and
-- rows of each channel's page map
pub record Sizes : Type 0 where
  pub words : ℕ
  pub channels : ℕ
  pub dies : ℕ
  pub superblocks : ℕ
  pub pages : ℕ
  pub z : ℕ
  pub mb : ℕ
  pub nb : ℕ
  pub bytes : ℕ
  pub rows : ℕ

-- the bytes of a codeword: nb blocks of z bits
abbrev pub code_bytes_of : Sizes → ℕ
code_bytes_of sizes = sizes.nb * sizes.z / 8

-- the bytes of a codeword's part: its blocks that aren't parity
abbrev pub part_bytes_of : Sizes → ℕ
part_bytes_of sizes = (sizes.nb - sizes.mb) * sizes.z / 8

-- the bytes of a codeword's parity: all but its part
abbrev pub parity_bytes_of : Sizes → ℕ
parity_bytes_of sizes = code_bytes_of sizes - part_bytes_of sizes

-- the bytes of a page's word, and of its payload: those of all its codewords, and of all their parts
abbrev pub word_bytes_of : Sizes → ℕ
word_bytes_of sizes = sizes.words * code_bytes_of sizes

abbrev pub payload_bytes_of : Sizes → ℕ
payload_bytes_of sizes = sizes.words * part_bytes_of sizes

-- the cells of a page, one for each bit of its word
abbrev pub page_cells_of : Sizes → ℕ
page_cells_of sizes = sizes.words * (sizes.nb * sizes.z)

-- the cells of all channels
abbrev pub cells_of : Sizes → ℕ
cells_of sizes = sizes.channels * sizes.dies * sizes.superblocks * sizes.pages * page_cells_of sizes

-- the most data bytes of a page: its payload but for the page head
abbrev pub most_bytes_of : Sizes → ℕ
most_bytes_of sizes = payload_bytes_of sizes - 16

-- the most rows of a channel with so many factory bad superblocks: two superblocks stay free of them
abbrev pub most_rows_of : Sizes → ℕ → ℕ
most_rows_of sizes bad = (sizes.superblocks - (2 + bad)) * (sizes.dies - 1) * sizes.pages

-- the sizes of a drive are within the limits, with no factory bad superblock counted: a page has one, two or four
-- codewords, and parts and codewords are whole bytes
pub record IsWithinLimits (sizes : Sizes) : Type 0 where
  pub words_low : 1 ≤ sizes.words
  pub words_high : sizes.words ≤ 4
  pub words_not_three : sizes.words ≢ 3
  pub channels_low : 1 ≤ sizes.channels
  pub channels_high : sizes.channels ≤ 8
  pub dies_low : 3 ≤ sizes.dies
  pub dies_high : sizes.dies ≤ 8
  pub superblocks_low : 4 ≤ sizes.superblocks
  pub superblocks_high : sizes.superblocks ≤ 256
  pub pages_low : 2 ≤ sizes.pages
  pub pages_high : sizes.pages ≤ 256
  pub lifting_low : 4 ≤ sizes.z
  pub lifting_high : sizes.z ≤ 1024
  pub base_rows_low : 3 ≤ sizes.mb
  pub base_rows_high : sizes.mb ≤ 16
  pub base_columns_low : sizes.mb + 1 ≤ sizes.nb
  pub base_columns_high : sizes.nb ≤ 128
  pub whole_payload_bytes : (sizes.nb - sizes.mb) * sizes.z % 8 ≡ 0
  pub whole_word_bytes : sizes.nb * sizes.z % 8 ≡ 0
  pub cells_high : cells_of sizes ≤ 2 ^ 28
  pub bytes_low : 1 ≤ sizes.bytes
  pub bytes_high : sizes.bytes + 16 ≤ payload_bytes_of sizes
  pub rows_low : 1 ≤ sizes.rows
  pub rows_high : sizes.rows ≤ most_rows_of sizes 0

-- whether a number is at least the low one and at most the high one
abbrev pub is_within : ℕ → ℕ → ℕ → Bool
is_within low high n = nat_le low n && nat_le n high

abbrev pub is_signed_within : ℤ → ℤ → ℤ → Bool
is_signed_within low high n = int_le low n && int_le n high

-- whether a number may be a level of a cell or a read level
abbrev pub is_level : ℤ → Bool
is_level level = is_signed_within (negsuc 16383) (pos 16383) level

-- whether a page may have so many codewords
abbrev pub is_word_count : ℕ → Bool
is_word_count words = is_within 1 4 words && not (words == 3)

-- whether a base matrix may have so many columns, next to the sizes before: parts and codewords are whole bytes, and the
-- cells aren't too many
abbrev pub is_column_count : Sizes → Bool
is_column_count sizes =
    is_within (sizes.mb + 1) 128 sizes.nb
    && (sizes.nb - sizes.mb) * sizes.z % 8 == 0
    && sizes.nb * sizes.z % 8 == 0
    && nat_le (cells_of sizes) (2 ^ 28)

-- whether each size is in its range, in the order of the sizes. The whole bytes and the cells count with nb.
abbrev pub ranges_kept : Sizes → List Bool
ranges_kept sizes =
    is_word_count sizes.words
    ∷ is_within 1 8 sizes.channels
    ∷ is_within 3 8 sizes.dies
    ∷ is_within 4 256 sizes.superblocks
    ∷ is_within 2 256 sizes.pages
    ∷ is_within 4 1024 sizes.z
    ∷ is_within 3 16 sizes.mb
    ∷ is_column_count sizes
    ∷ is_within 1 (most_bytes_of sizes) sizes.bytes
    ∷ is_within 1 (most_rows_of sizes 0) sizes.rows
    ∷ []

-- the first size that isn't in its range, counted from 0
abbrev pub first_size_fault : Sizes → Option ℕ
first_size_fault sizes = position not (ranges_kept sizes)

-- A law, the contract of a function without a body: no fault is found exactly where the sizes are within the limits.
abbrev pub FaultlessSizesAreWithin : Type 0
FaultlessSizesAreWithin = (sizes : Sizes) → (first_size_fault sizes ≡ None) ↔ IsWithinLimits sizes
