-- The sum of the eight bytes, each at its worth, is the number that they make.
use Rattle.std.proofs.Common.{◌≡◌, ap, ◌∙◌, arith, add-zero}
use Rattle.ssd_bits.specs.Runs.{is_one}
use Rattle.ssd_bits.proofs.Words.{word_from, is_one-word_from}
use Rattle.ssd_bits.proofs.word.word_at.Goals as goal

pub returns : goal.returns
returns c = λ k h.
    let e : c.from_le_bytes.result ≡ word_from c.args.bytes.now c.args.at = simp add-zero (omega arith) in
    ap (λ w. is_one w k) e ∙ is_one-word_from c.args.bytes.now c.args.at k (λ j. omega (arith, c.type_inv.bytes j)) h
