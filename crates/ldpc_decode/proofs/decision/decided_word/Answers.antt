use Rattle.std.proofs.Common.{◌≡◌, cond, eqb, length, ℤ, pos, sym, ap, ◌∙◌, lit≤, w8, arith}
use Rattle.std.proofs.lemmas.Simd.{bitmask_splat, get_or-chunk, length-chunk}
use Rattle.std.specs.Simd.Lanes.{chunk}
use Rattle.ssd_geo.specs.RowRule.{is_negative}
use Rattle.ldpc_decode.proofs.decision.decided_word.Goals as goal
use Rattle.shared_lemmas.proofs.WordBits.{mask_of_tests}

pub returns : goal.returns
returns c =
    let p = c.args.p.now in
    let at = c.args.at in
    let tests = c.loop-i.tests in
    let long : length (chunk at 64 p) ≡ 64 = length-chunk at 64 p c.requires in
    bitmask_splat w8 eqb tests 64 255 c.loop-i.invariant.long (lit≤ tt)
    ∙ mask_of_tests is_negative tests (chunk at 64 p) (omega (arith, c.loop-i.invariant.long))
    (λ k h.
    c.loop-i.invariant.each k (omega arith)
    ∙ ap (λ (number : ℤ). cond (is_negative number) 255 0) (sym (get_or-chunk at 64 p k (pos 0) (omega arith))))
