use Rattle.std.proofs.Common.{◌≡◌, ◌*◌, ◌≤◌}
use Rattle.std.specs.Prelude.{count_by, sum_by}
use Rattle.std.specs.List.{range_with_len}
use Rattle.ssd_geo.specs.Bits.{bits_of}
use Rattle.ssd_geo.specs.Codewords.{is_odd_row, word_bits}
use Rattle.qc_matrix.proofs.code.Code.failed_checks.Given as goal

-- the odd rows of the base rows so far
abbrev pub invariant-loop-i : goal.invariant-loop-i
invariant-loop-i l = record {
  counted : l.failed ≡ sum_by (λ i. count_by (is_odd_row l.self (bits_of (word_bits l.self) l.word) i) (range_with_len 0 l.self.z)) (range_with_len 0 l.i);
  bound : l.failed ≤ l.i * l.self.z;
}
