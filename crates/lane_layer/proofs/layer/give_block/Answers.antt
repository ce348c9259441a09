use Rattle.std.proofs.Common.{◌≡◌, ℕ, ◌+◌, ◌-◌, ◌*◌, ◌%◌, get_or, pos, ◌-ℤ◌, subst, ap, ◌∙◌, rules, arith}
use Rattle.ssd_geo.specs.Decoding.{clamped}
use Rattle.lane_layer.specs.Rows.{number_of}
use Rattle.lane_layer.proofs.TurnedRows.{by_runs}
use Rattle.lane_layer.proofs.layer.give_block.Goals as goal

pub returns-clause-given : goal.returns-clause-given
returns-clause-given c =
    let z = c.args.z in
    let edge = c.args.edge in
    let s = c.from-shift.result in
    let first = c.from.result * z in
    let p = c.args.p.now in
    let r = c.args.r.now in
    let given = c.give-2.new.given in
    let is = λ (at v : ℕ). number_of (get_or given at 0) ≡ clamped (get_or p v (pos 0) -ℤ get_or r at (pos 0)) in
    let column : c.from.result ≡ c.args.block.0 = search rules in
    let shift : s ≡ c.args.block.1 = search rules in
    let all = by_runs (λ u v. is (edge + u) v) z s first (omega arith)
    (λ i h. ap number_of (c.give-2.ensures.before (edge + i) (omega arith)) ∙ c.give.ensures.given i h)
    (λ i h. let at : edge + (z - s) + i ≡ edge + (z - s + i) = omega arith in subst (λ (k : ℕ). is k (first + i)) at (c.give-2.ensures.given i h)) in
    λ u h. subst (λ (n : ℕ). is (edge + u) (n * z + (u + c.args.block.1) % z)) column (subst (λ (n : ℕ). is (edge + u) (first + (u + n) % z)) shift (all u h))
