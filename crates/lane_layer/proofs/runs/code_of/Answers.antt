use Rattle.std.proofs.Common.{◌≡◌, ℤ, pos, ap, nat_abs, ◌+ℤ◌, ◌-ℤ◌, w8, w16, SFits, ◌∙◌, rules, arith}
use Rattle.std.specs.Int.{int_max, int_min}
use Rattle.std.proofs.lemmas.Int.{ints, clamps, to_z-of_z}
use Rattle.ssd_geo.specs.Decoding.{clamped}
use Rattle.lane_layer.specs.Rows.{number_of}
use Rattle.lane_layer.proofs.runs.code_of.Goals as goal

code_is : (variable edge value : ℤ) → value ≡ int_max (pos 0) (int_min (pos 127 +ℤ edge -ℤ variable) (pos 254)) → number_of (nat_abs value) ≡ clamped (variable -ℤ edge)
code_is variable edge value e = omega (arith, ints, clamps)

pub returns : goal.returns
returns c =
    let edge_fits : SFits w8 c.args.edge = search rules in
    let variable_fits : SFits w16 c.args.variable = search rules in
    let wide = simp to_z-of_z at c.from.ensures in
    let wide_fits : SFits w16 c.from.result = omega (arith, ints) in
    let sum_fits : SFits w16 (pos 127 +ℤ c.from.result) = omega (arith, ints) in
    let less_fits : SFits w16 (pos 127 +ℤ c.from.result -ℤ c.args.variable) = omega (arith, ints) in
    let value = simp to_z-of_z at c.clamp.ensures.value in
    let fits : SFits w16 c.clamp.result = search rules in
    simp to_z-of_z (code_is c.args.variable c.args.edge c.clamp.result (value ∙ ap (λ (x : ℤ). int_max (pos 0) (int_min (pos 127 +ℤ x -ℤ c.args.variable) (pos 254))) wide))
