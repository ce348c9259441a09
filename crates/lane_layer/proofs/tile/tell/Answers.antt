use Rattle.std.proofs.Common.{◌≡◌, ℕ, suc, ◌+◌, ◌-◌, ◌*◌, ◌<◌, ◌≤◌, ◌^◌, length, get_or, pos, inl, inr, sym, ap, subst, ◌∙◌, w8, arith}
use Rattle.std.specs.Simd.Lanes.{put_chunk}
use Rattle.std.proofs.lemmas.Bool.{cases_lt, cases_eq}
use Rattle.std.proofs.lemmas.Simd.{Each1-get_or, below_from_Fits}
use Rattle.std.proofs.Math.Nat.{mul-le-mul_right}
use Rattle.ssd_geo.specs.RowRule.{row_rule}
use Rattle.lane_layer.specs.Rows.{number_of, row_of}
use Rattle.lane_layer.proofs.Codes.{code_within}
use Rattle.lane_layer.proofs.RowLists.{length-row, row_at}
use Rattle.lane_layer.proofs.ToldCodes.{edge_now, edges_before, lane_tells, lane_tells_rule, lane_value, rows_before}
use Rattle.lane_layer.proofs.tile.tell.Goals as goal

pub loop-e-preserved : goal.loop-e-preserved
loop-e-preserved g c =
    let given = c.args.given.now in
    let z = c.args.z in
    let t = c.args.t in
    let degree = c.args.degree in
    let e = c.loop-e.e in
    let told = c.loop-e.told in
    let answer = c.turned-answer.result in
    let rule = λ (u f : ℕ). get_or (row_rule (row_of given z u degree)) f (pos 0) in
    let long : length answer ≡ g.row.L = c.turned-answer.ensures.long in
    let last : suc e * z ≤ degree * z = mul-le-mul_right z c.loop-e-test.true in
    record {
      before = λ f u in_f in_u. ap number_of (rows_before told answer z t e f u in_u (omega arith)) ∙ c.loop-e.invariant.before f u in_f in_u;
      now = λ f k in_f in_k.
          elim (cases_eq f e) [
            | inl same ↦
                let code = get_or given (e * z + (t + k)) 0 in
                let codes : get_or c.loaded-codes.result k 0 ≡ code = c.loaded-codes.ensures.each k in_k ∙ ap (λ (i : ℕ). get_or given i 0) (omega arith) in
                let nearest = get_or c.args.nearest k 0 in
                let second = get_or c.args.second k 0 in
                let signs = get_or c.args.signs k 0 in
                let fits : signs < 2 ^ 8 = Each1-get_or (λ x. x < 2 ^ 8) c.args.signs k 0 (omega arith) (below_from_Fits w8 c.args.signs c.fits-signs.1) in
                let row = row_of given z (t + k) degree in
                let is : get_or row e (pos 0) ≡ number_of code = row_at given z (t + k) degree e c.loop-e-test.true in
                let value : get_or answer k 0 ≡ lane_tells nearest second signs (get_or c.loaded-codes.result k 0) =
                lane_value nearest second signs (get_or c.loaded-codes.result k 0) _ _ _ _ _ _ (c.nearness.ensures.each k in_k) (c.scaled-least.ensures.each k in_k) (c.scaled-other.ensures.each k in_k) (c.chosen-magnitude.ensures.each k in_k) (c.signs_of.ensures.each k in_k) (c.turned-answer.ensures.each k in_k) in
                let x = c.requires.extremes in
                let ruled = lane_tells_rule row e nearest second signs code (omega (arith, length-row given z (t + k) degree)) is (code_within given c.requires.codes (e * z + (t + k))) (x.nearest_within k in_k) (omega arith) (x.least_of_others k e in_k c.loop-e-test.true) (x.negative k in_k) in
                ap (λ (n : ℕ). number_of (get_or (put_chunk (e * z + t) told answer) (n * z + (t + k)) 0)) same
                ∙ ap number_of (edge_now told answer z t e k (omega arith) (omega arith) ∙ value ∙ ap (lane_tells nearest second signs) codes)
                ∙ ruled
                ∙ ap (rule (t + k)) (sym same)
            | inr other ↦ ap number_of (edges_before told answer z t e f (t + k) (omega arith) (omega arith)) ∙ c.loop-e.invariant.now f k (omega arith) in_k
          ];
    }

pub returns : goal.returns
returns g c = λ f u in_f in_u.
    let given = c.args.given.now in
    let z = c.args.z in
    let t = c.args.t in
    let degree = c.args.degree in
    elim (cases_lt u t) [
      | inl earlier ↦ c.loop-e.invariant.before f u in_f earlier
      | inr later ↦
          let place : t + (u - t) ≡ u = omega arith in
          subst (λ (v : ℕ). number_of (get_or c.loop-e.told (f * z + v) 0) ≡ get_or (row_rule (row_of given z v degree)) f (pos 0)) place (c.loop-e.invariant.now f (u - t) (omega arith) (omega arith))
    ]
