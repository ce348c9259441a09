use Rattle.std.proofs.Common.{◌≡◌, ℕ, ◌<◌, ◌≤◌, false, take}
use Rattle.ssd_geo.specs.Bits.{bit_of, bits_of}
use Rattle.ssd_geo.specs.Codewords.{is_odd_sum, word_bits}
use Rattle.ssd_geo.specs.Layer.{variables_of}
use Rattle.qc_matrix.proofs.code.Code.odd_rows.Given as goal

-- each row's sum over the blocks so far; there are no bits past the block
abbrev pub invariant-loop-column : goal.invariant-loop-column
invariant-loop-column l = record {
  inside : (r : ℕ) → r < l.self.z →
      bit_of l.sums r ≡ is_odd_sum (bits_of (word_bits l.self) l.word) (variables_of (take l.column-index l.column-items) l.self.z r);
  outside : (r : ℕ) → l.self.z ≤ r → bit_of l.sums r ≡ false;
}
