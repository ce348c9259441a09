use Rattle.std.proofs.Common.{◌≡◌, ℕ, ◌+◌, ◌*◌, ◌<◌, ◌≤◌, length, get_or, pos, ◌+ℤ◌, inl, inr, subst, sym, ◌∙◌, arith}
use Rattle.std.proofs.lemmas.Bool.{cases_eq}
use Rattle.std.proofs.Math.Nat.{mul-le-mul_right}
use Rattle.ssd_geo.specs.Layer.{variable_of}
use Rattle.ssd_geo.proofs.ApartRows.{one_block_and_row}
use Rattle.lane_layer.specs.Rows.{number_of, row_of}
use Rattle.lane_layer.proofs.RowLists.{row_within}
use Rattle.lane_layer.proofs.WholeLayer.{outside_of, told_from_number, within_rule}
use Rattle.lane_layer.proofs.layer.leave_layer.Goals as goal

pub leave_block-requires-clause-codes : goal.leave_block-requires-clause-codes
leave_block-requires-clause-codes c = λ u l.
    let given = c.args.given.now in
    let z = c.args.z in
    let degree = length c.args.layer.now in
    let e = c.loop-e.e in
    told_from_number _ _ (c.requires.told e u c.loop-e-test.true l) (within_rule (row_of given z u degree) e (row_within given z u degree c.requires.codes))

pub loop-e-preserved : goal.loop-e-preserved
loop-e-preserved c =
    let layer = c.args.layer.now in
    let z = c.args.z in
    let e = c.loop-e.e in
    let block = get_or layer e (0, 0) in
    let given = c.args.given.now in
    let told = c.args.told.now in
    let p = c.leave_block.new.p in
    let r = c.leave_block.new.r in
    let in_e : e < length layer = c.loop-e-test.true in
    let shift : block.1 < z = c.requires.blocks.shifts e (0, 0) in_e in
    let sum = λ (g u : ℕ). get_or p (variable_of z u (get_or layer g (0, 0))) (pos 0) ≡ number_of (get_or given (g * z + u) 0) +ℤ number_of (get_or told (g * z + u) 0) in
    record {
      variables = λ f u in_f in_u.
          elim (cases_eq f e) [
            | inl same ↦ subst (λ (g : ℕ). sum g u) (sym same) (c.leave_block.ensures.variables u in_u)
            | inr other ↦
                let v = variable_of z u (get_or layer f (0, 0)) in
                let apart = outside_of z (block.1) (block.0 * z) v shift (λ t l clash. let blocks = (one_block_and_row z layer c.requires.blocks e f t u in_e (omega arith) l in_u clash).0 in absurd (omega arith)) in
                c.leave_block.ensures.others v apart ∙ c.loop-e.invariant.variables f u (omega arith) in_u
          ];
      others = λ k none.
          let apart = outside_of z (block.1) (block.0 * z) k shift (λ t l. none e t (omega arith) l) in
          c.leave_block.ensures.others k apart ∙ c.loop-e.invariant.others k (λ f u l m. none f u (omega arith) m);
      edges = λ f u in_f in_u.
          elim (cases_eq f e) [
            | inl same ↦ subst (λ (g : ℕ). get_or r (g * z + u) (pos 0) ≡ number_of (get_or told (g * z + u) 0)) (sym same) (c.leave_block.ensures.edges u in_u)
            | inr other ↦
                let less : f + 1 ≤ e = omega arith in
                let apart : (f + 1) * z ≤ e * z = mul-le-mul_right z less in
                c.leave_block.ensures.before (f * z + u) (omega arith) ∙ c.loop-e.invariant.edges f u (omega arith) in_u
          ];
    }
