use Rattle.std.proofs.Common.{◌∙◌, ◌+◌, ◌≤◌, ℕ, ap, arith, sym}
use Rattle.ssd_geo.specs.Codewords.{failed_checks}
use Rattle.ssd_geo.specs.Shape.{sizes_of}
use Rattle.retry_ladder.proofs.PageCodes.{failed_alone, failed_more, failed_so_far, few_checks}
use Rattle.retry_ladder.proofs.codeword.failed_of.Goals as goal

pub returns-then-shape-eq1 : goal.returns-then-shape-eq1
returns-then-shape-eq1 g c =
    c.failed.ensures
    ∙ failed_alone (sizes_of c.args.shape.now) (g.C.Decode.matrix c.args.decoder.now) c.args.sense.now
    c.if-shape-eq1.true c.requires.sense_len

pub overflow_add-failed : goal.overflow_add-failed
overflow_add-failed g c =
    let within = c.args.shape.now.within in
    let few : failed_checks (g.C.Decode.matrix c.args.decoder.now) c.part_into.new.out ≤ 16384 =
    few_checks (g.C.Decode.matrix c.args.decoder.now) c.part_into.new.out
    (omega (arith, c.requires.code.base_rows, within.base_rows_high))
    (omega (arith, c.requires.code.lifting, within.lifting_high)) in
    omega (arith, c.failed-failed.ensures, few, c.loop-f.invariant.bound, c.loop-f-test.true, within.words_high)

pub loop-f-preserved : goal.loop-f-preserved
loop-f-preserved g c =
    let m = g.C.Decode.matrix c.args.decoder.now in
    let sizes = sizes_of c.args.shape.now in
    let within = c.args.shape.now.within in
    let few : failed_checks m c.part_into.new.out ≤ 16384 =
    few_checks m c.part_into.new.out (omega (arith, c.requires.code.base_rows, within.base_rows_high))
    (omega (arith, c.requires.code.lifting, within.lifting_high)) in
    record {
      counted =
          ap (λ (n : ℕ). n + c.failed-failed.result) c.loop-f.invariant.counted
          ∙ ap (λ (n : ℕ). failed_so_far sizes m c.args.sense.now c.loop-f.f + n)
          (c.failed-failed.ensures ∙ ap (failed_checks m) c.part_into.ensures)
          ∙ sym (failed_more sizes m c.args.sense.now c.loop-f.f);
      bound = omega (arith, c.failed-failed.ensures, few, c.loop-f.invariant.bound);
    }
