use Rattle.std.proofs.Common.{◌≡◌, ◌+◌, ◌*◌, ◌<◌, ◌≢◌, length, get_or, pos, ◌-ℤ◌, w8, w16, SFits, ap, ◌∙◌, get_or-set_other, get_or-set_same, below_more, rules, arith}
use Rattle.std.proofs.lemmas.Int.{ints, to_z-of_z}
use Rattle.ssd_geo.specs.Decoding.{clamped}
use Rattle.ssd_geo.specs.Layer.{variable_of}
use Rattle.ssd_geo.specs.RowRule.{IsWithin}
use Rattle.minsum_layer.proofs.Gathered.{gathered, within_at}
use Rattle.minsum_layer.proofs.layer.gather.Goals as goal

pub loop-e-preserved : goal.loop-e-preserved
loop-e-preserved c =
    let e = c.loop-e.e in
    let edge = e * c.args.z + c.args.t in
    let variable = variable_of c.args.z c.args.t (get_or c.args.layer.now e (0, 0)) in
    below_more _ _
    (λ k h. let ne : k ≢ e = omega arith in rw get_or-set_other (c.loop-e.invariant k h))
    (let lt : e < length c.loop-e.given = omega arith in
    let p_fits : SFits w16 (get_or c.args.p.now c.variable_at-variable.result (pos 0)) = search rules in
    let r_fits : SFits w8 (get_or c.args.r.now edge (pos 0)) = search rules in
    let told = simp to_z-of_z at c.from.ensures in
    let told_fits : SFits w16 c.from.result = search rules in
    let near : IsWithin 222 (get_or c.args.p.now c.variable_at-variable.result (pos 0)) = within_at 222 c.args.p.now _ c.requires.numbers.p_within in
    let small : IsWithin 128 c.from.result = omega (arith, ints) in
    let less_fits : SFits w16 (get_or c.args.p.now c.variable_at-variable.result (pos 0) -ℤ c.from.result) = omega (arith, ints) in
    let clamp = simp to_z-of_z at c.clamp.ensures.value in
    let place : get_or c.args.p.now c.variable_at-variable.result (pos 0) ≡ get_or c.args.p.now variable (pos 0) = ap (λ i. get_or c.args.p.now i (pos 0)) c.variable_at-variable.ensures in
    let same : get_or c.args.p.now c.variable_at-variable.result (pos 0) -ℤ c.from.result ≡ get_or c.args.p.now variable (pos 0) -ℤ get_or c.args.r.now edge (pos 0) = cc in
    let fits : SFits w8 c.clamp.result = omega (arith, ints) in
    let fits_wide : SFits w16 c.clamp.result = omega (arith, ints) in
    rw get_or-set_same (simp to_z-of_z (clamp ∙ ap clamped same)))

pub returns : goal.returns
returns c =
    gathered c.args.layer.now c.args.z c.args.t c.args.p.now c.args.r.now c.loop-e.given (omega arith) (λ k h. c.loop-e.invariant k (omega arith))
