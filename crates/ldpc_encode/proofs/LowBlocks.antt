-- The blocks of a layer that stand in the message's columns sum to the base row's sum over the message.
use Rattle.std.proofs.Common.{◌≡◌, ℕ, ◌+◌, ◌*◌, ◌%◌, ◌<◌, ◌≤◌, Bool, false, cond, List, ℤ, pos, negsuc, refl, ap, sym, ◌∙◌, arith}
use Rattle.std.proofs.lemmas.Bool.{lt-ltb, le-ltb}
use Rattle.std.proofs.lemmas.List.FromFn.{length-map-range_with_len}
use Rattle.std.proofs.lemmas.Nat.{mod_below, row_fits}
use Rattle.ssd_geo.specs.Bits.{bit_of, bits_of, bit_sum}
use Rattle.ssd_geo.specs.BaseMatrix.{BaseMatrix, IsAccepted, entry_at, layer_of, message_columns}
use Rattle.ssd_geo.specs.Codewords.{payload_bits}
use Rattle.qc_matrix.proofs.OddSums.{bits_of-at}
use Rattle.ssd_bits.proofs.Words.{bit_sum-false}
use Rattle.ldpc_encode.proofs.Blocks.{get_or-message_sum, row_bit}
use Rattle.ldpc_encode.proofs.Rows.{columns}
use Rattle.ldpc_encode.proofs.Sums.{at_entry, sum_blocks, sum_blocks-columns, sum_over, sum_over-none, sum_over-same, sum_over-split}
use Rattle.ldpc_encode.specs.Encoding.{low_bit, message_sum_bit}

module _ (m : BaseMatrix) (ok : IsAccepted m) (payload : List ℕ) (i r : ℕ) (low : r < m.z) where
  u : List Bool
  u = bits_of (payload_bits m) payload

  in-message : (j : ℕ) (e : ℤ) → j < message_columns m → at_entry (low_bit (message_columns m) m.z payload r) j e ≡ at_entry (row_bit m.z r (bits_of (payload_bits m) payload)) j e
  in-message j (pos s) column =
      let inside : j * m.z + m.z ≤ message_columns m * m.z = row_fits j m.z (message_columns m) m.z column (omega arith) in
      let below : (r + s) % m.z < m.z = mod_below (r + s) m.z (omega arith) in
      ap (λ (b : Bool). cond b (bit_of payload (j * m.z + (r + s) % m.z)) false) (lt-ltb j (message_columns m) column)
      ∙ sym (bits_of-at (payload_bits m) payload (j * m.z + (r + s) % m.z) (omega arith))
  in-message j (negsuc n) column = refl

  past-message : (j : ℕ) (e : ℤ) → message_columns m ≤ j → at_entry (low_bit (message_columns m) m.z payload r) j e ≡ false
  past-message j (pos s) column = ap (λ (b : Bool). cond b (bit_of payload (j * m.z + (r + s) % m.z)) false) (le-ltb j (message_columns m) column)
  past-message j (negsuc n) column = refl

  pub low-blocks : sum_blocks (low_bit (message_columns m) m.z payload r) (layer_of m i) ≡ message_sum_bit m payload i r
  low-blocks =
      let f : ℕ → Bool = λ j. at_entry (low_bit (message_columns m) m.z payload r) j (entry_at m i j) in
      sum_blocks-columns (low_bit (message_columns m) m.z payload r) (entry_at m i) 0 m.nb
      ∙ ap (sum_over f 0) (sym (columns m ok))
      ∙ sum_over-split f 0 (message_columns m) m.mb
      ∙ ap (bit_sum (sum_over f 0 (message_columns m)))
      (sum_over-none f (0 + message_columns m) m.mb (λ j from _. past-message j (entry_at m i j) (omega arith)))
      ∙ bit_sum-false (sum_over f 0 (message_columns m))
      ∙ sum_over-same f (λ j. at_entry (row_bit m.z r (bits_of (payload_bits m) payload)) j (entry_at m i j)) 0 (message_columns m)
      (λ j _ to. in-message j (entry_at m i j) (omega arith))
      ∙ sym (get_or-message_sum m (bits_of (payload_bits m) payload) (columns m ok) (length-map-range_with_len (bit_of payload) 0 (payload_bits m))
      (omega (arith, ok.within.z_low)) i r low)
