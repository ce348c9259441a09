-- What do the steps of encoding add to a word? Each adds to its parity blocks alone: first the sums of rows, then the
-- first parity block.
use Rattle.std.specs.Prelude.{◌≡◌, ℕ, zero, suc, ◌+◌, ◌*◌, ◌%◌, ◌<◌, ◌≤◌, nat_lt, Bool, false, cond, List, slice_index_or}
use Rattle.ssd_geo.specs.Bits.{bit_of, bit_sum, bits_of}
use Rattle.ssd_geo.specs.BaseMatrix.{BaseMatrix, has_middle_before, message_columns, parity_entry}
use Rattle.ssd_geo.specs.Codewords.{message_sum, payload_bits, shift_of, word_bits}

-- row r of a base row's sum over the message
abbrev pub message_sum_bit : BaseMatrix → List ℕ → ℕ → ℕ → Bool
message_sum_bit m payload i r = slice_index_or (message_sum m (bits_of (payload_bits m) payload) i) r false

-- the sum of the first rows' sums over the message
abbrev pub rows_sum_bit : BaseMatrix → List ℕ → ℕ → ℕ → Bool
rows_sum_bit m payload zero r = false
rows_sum_bit m payload (suc i) r = bit_sum (rows_sum_bit m payload i r) (message_sum_bit m payload i r)

-- each bit of a parity block has the bit added that a function gives for it; the message and what stands past the
-- word stay
pub record AddsToParity (m : BaseMatrix) (old new : List ℕ) (added : ℕ → ℕ → Bool) : Type 0 where
  pub message : (v : ℕ) → v < payload_bits m → bit_of new v ≡ bit_of old v
  pub parity : (t r : ℕ) → t < m.mb → r < m.z
      → bit_of new ((message_columns m + t) * m.z + r) ≡ bit_sum (bit_of old ((message_columns m + t) * m.z + r)) (added t r)
  pub rest : (v : ℕ) → word_bits m ≤ v → bit_of new v ≡ bit_of old v

-- what the sums of rows add: to parity block t, and not to the first, the sum of the rows before t
abbrev pub sums_added : BaseMatrix → List ℕ → ℕ → ℕ → Bool
sums_added m payload t r = cond (nat_lt 0 t) (rows_sum_bit m payload t r) false

-- what the first parity block adds: itself in its own place, and to the others itself turned, and once more after the
-- middle row
abbrev pub first_added : BaseMatrix → List ℕ → ℕ → ℕ → Bool
first_added m first t r =
    cond (nat_lt 0 t)
    (bit_sum (bit_of first ((r + shift_of (parity_entry m 0)) % m.z)) (cond (has_middle_before m t) (bit_of first r) false))
    (bit_of first r)

-- the bit that row r has of a block in a column below some column
abbrev pub low_bit : ℕ → ℕ → List ℕ → ℕ → ℕ × ℕ → Bool
low_bit columns z payload r block = cond (nat_lt (block.0) columns) (bit_of payload (block.0 * z + (r + block.1) % z)) false
