use Rattle.std.proofs.Common.{◌<◌, ◌≢◌, length, get_or, pos, w8, SFits, get_or-set_other, get_or-set_same, below_more, rules, arith}
use Rattle.std.specs.List.{remove}
use Rattle.std.proofs.lemmas.Int.{to_z-of_z}
use Rattle.std.proofs.lemmas.List.FromFn.{fill_by_all}
use Rattle.ssd_geo.specs.RowRule.{told_by, row_rule}
use Rattle.minsum_layer.proofs.TwoLeast.{sign-remove}
use Rattle.minsum_layer.proofs.row.row_update.Goals as goal

pub loop-i-preserved : goal.loop-i-preserved
loop-i-preserved c =
    let q = c.args.q.now in
    let i = c.loop-i.i in
    below_more _ _
    (λ k h. let ne : k ≢ i = omega arith in rw get_or-set_other (c.loop-i.invariant k h))
    (let lt : i < length c.loop-i.r_out = omega arith in
    let reads : SFits w8 (get_or q i (pos 0)) = search rules in
    let writes : SFits w8 c.told.result = search rules in
    let h = simp to_z-of_z at c.told.ensures in
    let m = c.extremes_of-row.ensures.least_of_others i (omega arith) in
    let s = sign-remove q i (omega arith) in
    rw get_or-set_same (simp to_z-of_z (cc)))

pub returns : goal.returns
unfolding row_rule
returns c =
    fill_by_all (λ i. told_by (remove c.args.q.now i)) c.loop-i.r_out (length c.args.q.now) (pos 0) (omega arith) (search rules)
