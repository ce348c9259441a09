use Rattle.std.proofs.Common.{◌≡◌, ◌+◌, ◌*◌, ◌<◌, length, get_or, pos, ◌+ℤ◌, w8, w16, SFits, refl, sym, ◌∙◌, rules, arith}
use Rattle.std.proofs.lemmas.List.{length-map}
use Rattle.std.proofs.lemmas.List.FromFn.{length-map-range_with_len}
use Rattle.std.proofs.lemmas.Int.{ints, to_z-of_z}
use Rattle.ssd_geo.specs.Decoding.{edges_of, sums_of}
use Rattle.ssd_geo.specs.Layer.{variable_of, variables_of}
use Rattle.minsum_layer.proofs.Scattered.{placed_more, placed_all, sums_at}
use Rattle.minsum_layer.proofs.layer.scatter.Goals as goal
use Rattle.ssd_geo.proofs.WorkedRows.{edge_at, length-sums_of, variable_at}

pub loop-e-preserved : goal.loop-e-preserved
loop-e-preserved c =
    let e = c.loop-e.e in
    let z = c.args.z in
    let t = c.args.t in
    let layer = c.args.layer.now in
    let edge = e * z + t in
    let given = c.args.given.now in
    let told = c.args.told.now in
    let variables = variables_of layer z t in
    let given_fits : SFits w8 (get_or given e (pos 0)) = search rules in
    let told_fits : SFits w8 (get_or told e (pos 0)) = search rules in
    let first = simp to_z-of_z at c.from.ensures in
    let second = simp to_z-of_z at c.from-in-loop-e.ensures in
    let first_fits : SFits w16 c.from.result = search rules in
    let second_fits : SFits w16 c.from-in-loop-e.result = search rules in
    let sum_fits : SFits w16 (c.from.result +ℤ c.from-in-loop-e.result) = omega (arith, ints) in
    let in_variables : e < length variables = omega (arith, length-map layer (variable_of z t)) in
    let in_edges : e < length (edges_of (length layer) z t) = omega (arith, length-map-range_with_len (λ k. k * z + t) 0 (length layer)) in
    let in_sums : e < length (sums_of given told) = omega (arith, length-sums_of given told (omega arith)) in
    let place = variable_at layer z t e (omega arith) ∙ sym c.variable_at-variable.ensures in
    let value : get_or (sums_of given told) e (pos 0) ≡ c.from.result +ℤ c.from-in-loop-e.result =
    (let s = sums_at given told e (omega arith) (omega arith) in cc) in (
      simp to_z-of_z (sym (placed_more c.loop-e.p variables (sums_of given told) e _ _ in_variables in_sums place value) ∙ c.loop-e.invariant.0),
      simp to_z-of_z (sym (placed_more c.loop-e.r (edges_of (length layer) z t) told e edge _ in_edges (omega arith) (edge_at (length layer) z t e (omega arith)) refl) ∙ c.loop-e.invariant.1),
    )

pub returns-clause-variables : goal.returns-clause-variables
returns-clause-variables c =
    let layer = c.args.layer.now in
    let variables = variables_of layer c.args.z c.args.t in
    sym (placed_all c.loop-e.p variables _ c.loop-e.e (omega (arith, length-map layer (variable_of c.args.z c.args.t)))) ∙ c.loop-e.invariant.0

pub returns-clause-edges : goal.returns-clause-edges
returns-clause-edges c =
    let blocks = length c.args.layer.now in
    sym (placed_all c.loop-e.r (edges_of blocks c.args.z c.args.t) _ c.loop-e.e (omega (arith, length-map-range_with_len (λ k. k * c.args.z + c.args.t) 0 blocks))) ∙ c.loop-e.invariant.1
