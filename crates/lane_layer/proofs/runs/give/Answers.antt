use Rattle.std.proofs.Common.{◌+◌, ◌≢◌, get_or, pos, ap, ◌∙◌, w8, w16, SFits, rules, get_or-set_other, get_or-set_same, below_more, arith}
use Rattle.std.proofs.lemmas.Int.{to_z-of_z}
use Rattle.lane_layer.specs.Rows.{number_of}
use Rattle.lane_layer.proofs.runs.give.Goals as goal

pub loop-i-preserved : goal.loop-i-preserved
loop-i-preserved c =
    let given = c.loop-i.given in
    let i = c.loop-i.i in
    let edge = c.args.edge in
    let variable_fits : SFits w16 (get_or c.args.p.now (c.args.variable + i) (pos 0)) = search rules in
    let edge_fits : SFits w8 (get_or c.args.r.now (edge + i) (pos 0)) = search rules in
    let value = simp to_z-of_z at c.code_of.ensures in
    record {
      written = below_more _ _
          (λ k h. let ne : edge + k ≢ edge + i = omega arith in ap number_of (get_or-set_other given (edge + i) (edge + k) _ 0 ne) ∙ c.loop-i.invariant.written k h)
          (ap number_of (get_or-set_same given (edge + i) _ 0 (omega arith)) ∙ value);
      before = λ k h. let ne : k ≢ edge + i = omega arith in get_or-set_other given (edge + i) k _ 0 ne ∙ c.loop-i.invariant.before k h;
    }
