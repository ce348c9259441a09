-- Which base matrix has a code, and which check rows does it make? A base matrix has mb rows and nb columns.
-- Entry -1 stands for the zero block. Entry s from 0 to z - 1 in row i and column j says that check row i * z + r has
-- variable j * z + (r + s) mod z. The last mb columns have a fixed form, after the one of IEEE 802.11n:
-- the first of them has one shift x in the first and the last row, a shift 0 in exactly one middle row, and
-- -1 elsewhere; the others are a dual diagonal of shifts 0.
use Rattle.std.specs.Prelude.{◌≡◌, ℕ, ◌+◌, ◌-◌, ◌*◌, ◌/◌, ◌%◌, ◌<◌, ◌≤◌, ◌==◌, nat_lt, Bool, ◌&&◌, ◌||◌, not, if◌then◌else◌, List, length, slice_index_or, ℤ, pos, negsuc, Option, Some, None, is_none, IsTrue, find, filter_map, option_map}
use Rattle.std.specs.List.{range_with_len, list_any}
use Rattle.std.specs.Option.{option_or}
use Rattle.std.specs.Ordering.{int_eq}

-- a base matrix: its lifting size, its base rows and columns, and its entries row by row
pub record BaseMatrix : Type 0 where
  pub z : ℕ
  pub mb : ℕ
  pub nb : ℕ
  pub entries : List ℤ

-- the number of columns of the message
abbrev pub message_columns : BaseMatrix → ℕ
message_columns m = m.nb - m.mb

-- the entry in row i and column j
abbrev pub entry_at : BaseMatrix → ℕ → ℕ → ℤ
entry_at m i j = slice_index_or m.entries (i * m.nb + j) (negsuc 0)

-- the entry of the zero block
abbrev pub zero_block : ℤ
zero_block = negsuc 0

-- whether an entry is -1 or a shift below the lifting size
abbrev pub is_entry_in_range : ℕ → ℤ → Bool
is_entry_in_range z (pos shift) = nat_lt shift z
is_entry_in_range z (negsuc n) = n == 0

-- the block that an entry makes in its column, a column and a shift; a zero block makes none
abbrev pub block_of_entry : ℕ → ℤ → Option (ℕ × ℕ)
block_of_entry column (pos shift) = Some (column, shift)
block_of_entry column (negsuc n) = None

-- the blocks of base row i that aren't zero, in rising columns
abbrev pub layer_of : BaseMatrix → ℕ → List (ℕ × ℕ)
layer_of m i = filter_map (λ column. block_of_entry column (entry_at m i column)) (range_with_len 0 m.nb)

-- what can be wrong with a base matrix: an entry out of range; the first parity column in a row; the dual diagonal
pub data MatrixFault : Type 0 where
  entry_range : ℕ → ℕ → MatrixFault
  parity_column : ℕ → MatrixFault
  diagonal : ℕ → ℕ → MatrixFault

-- the first entry out of range, row by row, by its row and column
abbrev pub range_fault : BaseMatrix → Option MatrixFault
range_fault m =
    option_map (λ k. entry_range (k / m.nb) (k % m.nb))
    (find (λ k. not (is_entry_in_range m.z (entry_at m (k / m.nb) (k % m.nb)))) (range_with_len 0 (m.mb * m.nb)))

-- the entry in row i of the first parity column
abbrev pub parity_entry : BaseMatrix → ℕ → ℤ
parity_entry m i = entry_at m i (message_columns m)

-- whether some row from the second to the one before row i has shift 0 in the first parity column
abbrev pub has_middle_before : BaseMatrix → ℕ → Bool
has_middle_before m i = list_any (λ t. int_eq (parity_entry m t) (pos 0)) (range_with_len 1 (i - 1))

-- whether row i breaks the form of the first parity column: the first row has a shift, the last row the same
-- and a shift 0 before it, and each middle row -1 or the first shift 0
abbrev pub breaks_parity_column : BaseMatrix → ℕ → Bool
breaks_parity_column m i =
    if i == 0 then int_eq (parity_entry m 0) zero_block
    else if i + 1 == m.mb then not (int_eq (parity_entry m i) (parity_entry m 0)) || not (has_middle_before m i)
    else not (int_eq (parity_entry m i) zero_block) && (not (int_eq (parity_entry m i) (pos 0)) || has_middle_before m i)

-- the first row that does, in rising order
abbrev pub column_fault : BaseMatrix → Option MatrixFault
column_fault m = option_map parity_column (find (breaks_parity_column m) (range_with_len 0 m.mb))

-- what row i has in parity column t, counted from 0 and not the first: 0 in rows t - 1 and t, and -1 in all others
abbrev pub diagonal_entry : ℕ → ℕ → ℤ
diagonal_entry i t = if (i == t) || (i + 1 == t) then pos 0 else zero_block

-- the first entry of the parity columns after the first that differs from the dual diagonal, row by row
abbrev pub diagonal_fault : BaseMatrix → Option MatrixFault
diagonal_fault m =
    let width = m.mb - 1 in
    let column = λ (k : ℕ). message_columns m + 1 + k % width in
    option_map (λ k. diagonal (k / width) (column k))
    (find (λ k. not (int_eq (entry_at m (k / width) (column k)) (diagonal_entry (k / width) (1 + k % width))))
    (range_with_len 0 (m.mb * width)))

-- what is wrong with a base matrix: all entries are tested first, then the first parity column, then the diagonal
abbrev pub first_fault : BaseMatrix → Option MatrixFault
first_fault m = option_or (range_fault m) (option_or (column_fault m) (diagonal_fault m))

-- a base matrix within the limits of the product, with an entry for each row and column
pub record IsWithinLimits (m : BaseMatrix) : Type 0 where
  pub z_low : 4 ≤ m.z
  pub z_high : m.z ≤ 1024
  pub mb_low : 3 ≤ m.mb
  pub mb_high : m.mb ≤ 16
  pub nb_low : m.mb < m.nb
  pub nb_high : m.nb ≤ 128
  pub entries : length m.entries ≡ m.mb * m.nb

-- a base matrix that has a code: it is within the limits, and nothing is wrong with it
pub record IsAccepted (m : BaseMatrix) : Type 0 where
  pub within : IsWithinLimits m
  pub faultless : IsTrue (is_none (first_fault m))
