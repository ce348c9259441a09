-- One more base row is counted.
use Rattle.std.proofs.Common.{ℕ, ◌+◌, ap, sym, ◌∙◌, arith}
use Rattle.std.specs.Prelude.{count_by, sum_by}
use Rattle.std.specs.List.{range_with_len}
use Rattle.ssd_geo.specs.Bits.{bits_of}
use Rattle.ssd_geo.specs.Codewords.{is_odd_row, word_bits}
use Rattle.qc_matrix.proofs.code.Code.failed_checks.Goals as goal
use Rattle.shared_lemmas.proofs.Lists.{sum_by-range_more}

pub loop-i-preserved : goal.loop-i-preserved
loop-i-preserved c =
    let rows : ℕ → ℕ = λ i. count_by (is_odd_row c.args.self.now (bits_of (word_bits c.args.self.now) c.args.word.now) i) (range_with_len 0 c.args.self.now.z) in
    record {
      counted =
          ap (λ (n : ℕ). n + c.odd_rows-failed.result) c.loop-i.invariant.counted
          ∙ ap (λ (n : ℕ). ◌+◌ (sum_by rows (range_with_len 0 c.loop-i.i)) n) c.odd_rows-failed.ensures.value
          ∙ sym (sum_by-range_more rows c.loop-i.i);
      bound = omega (arith, c.loop-i.invariant.bound, c.odd_rows-failed.ensures.bound);
    }
