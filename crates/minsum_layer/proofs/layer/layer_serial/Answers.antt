use Rattle.std.proofs.Common.{◌≡◌, ℕ, subst, rules, arith}
use Rattle.ssd_geo.specs.LayerNumbers.{AreNumbersOf}
use Rattle.ssd_geo.proofs.DecodingBounds.{numbers_kept}
use Rattle.minsum_layer.proofs.layer.layer_serial.Goals as goal

pub work_row-requires-clause-numbers : goal.work_row-requires-clause-numbers
work_row-requires-clause-numbers c =
    let layer = c.args.layer.now in
    let z = c.from-z.result in
    let same : c.args.z ≡ z = search rules in
    let first : AreNumbersOf z layer c.args.p.now c.args.r.now = subst (λ (n : ℕ). AreNumbersOf n layer c.args.p.now c.args.r.now) same c.requires.numbers in
    numbers_kept layer z c.loop-t.t c.args.p.now c.args.r.now c.loop-t.p c.loop-t.r first c.loop-t.invariant (omega arith) (omega arith)

pub returns-clause-variable_bound : goal.returns-clause-variable_bound
returns-clause-variable_bound c =
    let layer = c.args.layer.now in
    let z = c.from-z.result in
    let same : c.args.z ≡ z = search rules in
    let first : AreNumbersOf z layer c.args.p.now c.args.r.now = subst (λ (n : ℕ). AreNumbersOf n layer c.args.p.now c.args.r.now) same c.requires.numbers in
    (numbers_kept layer z c.loop-t.t c.args.p.now c.args.r.now c.loop-t.p c.loop-t.r first c.loop-t.invariant (omega arith) (omega arith)).p_within

pub returns-clause-edge_bound : goal.returns-clause-edge_bound
returns-clause-edge_bound c =
    let layer = c.args.layer.now in
    let z = c.from-z.result in
    let same : c.args.z ≡ z = search rules in
    let first : AreNumbersOf z layer c.args.p.now c.args.r.now = subst (λ (n : ℕ). AreNumbersOf n layer c.args.p.now c.args.r.now) same c.requires.numbers in
    (numbers_kept layer z c.loop-t.t c.args.p.now c.args.r.now c.loop-t.p c.loop-t.r first c.loop-t.invariant (omega arith) (omega arith)).r_within
