use Rattle.std.proofs.Common.{◌≡◌, ℕ, ◌+◌, List, Some, ℤ, true, false, ◌∙◌, ap, arith}
use Rattle.ssd_geo.specs.Bits.{bytes_of}
use Rattle.ssd_geo.specs.Decoding.{decided}
use Rattle.ldpc_decode.proofs.Found.{after_more, decoded, not_decoded, one_more_failed, tested}
use Rattle.ldpc_decode.proofs.search.search.Goals as goal

pub returns-then-is_decided-2-clause-answer : goal.returns-then-is_decided-2-clause-answer
returns-then-is_decided-2-clause-answer c =
    let m = c.args.code.now in
    let values = c.args.values.now in
    let n = c.loop-before.before in
    let after = after_more m values n c.loop-before.p c.loop-before.r c.iterate.new.p c.iterate.new.r c.loop-before.invariant.0 c.iterate.ensures.worked in
    let answer = c.is_decided-in-loop-before.ensures in
    let counted : n + 1 ≡ c.iterate.new.done = omega (arith, c.iterate.ensures.counted, c.loop-before.invariant.5) in
    decoded m c.args.limit values (n + 1) _ (omega arith)
    (tested m values (n + 1) c.iterate.new.p c.iterate.new.r c.is_decided-in-loop-before.result true after answer.answer c.if-is_decided-2.true)
    (λ k h. c.loop-before.invariant.3 k (omega arith))
    (c.copy_from_slice-then-is_decided-2.ensures.after ∙ answer.decision ∙ ap (λ (s : List ℤ × List ℤ). bytes_of (decided (s.0))) after)
    ∙ ap (λ (k : ℕ). Some (k, c.copy_from_slice-then-is_decided-2.new.self)) counted

pub loop-before-preserved : goal.loop-before-preserved
loop-before-preserved c =
    let m = c.args.code.now in
    let values = c.args.values.now in
    let n = c.loop-before.before in
    let after = after_more m values n c.loop-before.p c.loop-before.r c.iterate.new.p c.iterate.new.r c.loop-before.invariant.0 c.iterate.ensures.worked in (
      after,
      c.iterate.ensures.p_within,
      c.iterate.ensures.r_within,
      one_more_failed m values n c.loop-before.invariant.3
          (tested m values (n + 1) c.iterate.new.p c.iterate.new.r c.is_decided-in-loop-before.result false after c.is_decided-in-loop-before.ensures.answer c.if-is_decided-2.false),
      c.loop-before.invariant.4,
      omega (arith, c.iterate.ensures.counted, c.loop-before.invariant.5),
      c.iterate.ensures.same ∙ c.loop-before.invariant.6,
    )

pub returns-clause-answer : goal.returns-clause-answer
returns-clause-answer c =
    (not_decoded c.args.code.now c.args.limit c.args.values.now (λ k h. c.loop-before.invariant.3 k (omega arith)), c.loop-before.invariant.4)
