use Rattle.std.proofs.Common.{◌≡◌, ℕ, subst, rules, arith}
use Rattle.ssd_geo.specs.LayerNumbers.{AreNumbersOf}
use Rattle.ssd_geo.proofs.DecodingBounds.{numbers_kept}
use Rattle.lane_layer.proofs.layer.layer_lanes.Goals as goal

pub returns-clause-variable_bound : goal.returns-clause-variable_bound
returns-clause-variable_bound g c =
    let layer = c.args.layer.now in
    let z = c.from.result in
    let same : c.args.z ≡ z = search rules in
    let first : AreNumbersOf z layer c.args.p.now c.args.r.now = subst (λ (n : ℕ). AreNumbersOf n layer c.args.p.now c.args.r.now) same c.requires.numbers in
    (numbers_kept layer z z c.args.p.now c.args.r.now c.work_layer.new.p c.work_layer.new.r first c.work_layer.ensures (omega arith) (omega arith)).p_within

pub returns-clause-edge_bound : goal.returns-clause-edge_bound
returns-clause-edge_bound g c =
    let layer = c.args.layer.now in
    let z = c.from.result in
    let same : c.args.z ≡ z = search rules in
    let first : AreNumbersOf z layer c.args.p.now c.args.r.now = subst (λ (n : ℕ). AreNumbersOf n layer c.args.p.now c.args.r.now) same c.requires.numbers in
    (numbers_kept layer z z c.args.p.now c.args.r.now c.work_layer.new.p c.work_layer.new.r first c.work_layer.ensures (omega arith) (omega arith)).r_within
