use Rattle.std.proofs.Common.{◌≡◌}
use Rattle.std.specs.Prelude.{count_by, sum_by}
use Rattle.std.specs.List.{range_with_len}
use Rattle.ssd_geo.specs.Bits.{bits_of}
use Rattle.ssd_geo.specs.Codewords.{is_odd_row, word_bits}
use Rattle.qc_matrix.proofs.code.Code.is_codeword.Given as goal

-- the base rows so far have no odd row
abbrev pub invariant-loop-row : goal.invariant-loop-row
invariant-loop-row l =
    sum_by (λ i. count_by (is_odd_row l.self (bits_of (word_bits l.self) l.word) i) (range_with_len 0 l.self.z)) (range_with_len 0 l.row) ≡ 0
