use Rattle.std.proofs.Common.{ℕ, ◌+◌, ◌<◌, ◌≤◌, ◌⊎◌, ◌≢◌, pos, inl, inr, ◌∙◌, w8, w16, SFits, get_or-set_other, get_or-set_same, below_more, rules, arith}
use Rattle.std.proofs.lemmas.Int.{to_z-of_z}
use Rattle.lane_layer.proofs.runs.leave.Goals as goal

outside : (variable i k : ℕ) → (k < variable) ⊎ (variable + (i + 1) ≤ k) → ((k < variable) ⊎ (variable + i ≤ k)) × (k ≢ variable + i)
outside variable i k (inl h) = (inl h, omega arith)
outside variable i k (inr h) = (inr (omega arith), omega arith)

pub loop-i-preserved : goal.loop-i-preserved
loop-i-preserved c =
    let p = c.loop-i.p in
    let r = c.loop-i.r in
    let i = c.loop-i.i in
    let edge = c.args.edge in
    let variable = c.args.variable in
    let sum_fits : SFits w16 c.sum_of.result = search rules in
    let answer_fits : SFits w8 c.answer_of.result = search rules in
    record {
      variables = below_more _ _
          (λ k h. let ne : variable + k ≢ variable + i = omega arith in get_or-set_other p (variable + i) (variable + k) _ (pos 0) ne ∙ c.loop-i.invariant.variables k h)
          (get_or-set_same p (variable + i) _ (pos 0) (omega arith) ∙ simp to_z-of_z c.sum_of.ensures);
      others = λ k h.
          let apart = outside variable i k h in
          get_or-set_other p (variable + i) k _ (pos 0) apart.1 ∙ c.loop-i.invariant.others k apart.0;
      edges = below_more _ _
          (λ k h. let ne : edge + k ≢ edge + i = omega arith in get_or-set_other r (edge + i) (edge + k) _ (pos 0) ne ∙ c.loop-i.invariant.edges k h)
          (get_or-set_same r (edge + i) _ (pos 0) (omega arith) ∙ simp to_z-of_z c.answer_of.ensures);
      before = λ k h. let ne : k ≢ edge + i = omega arith in get_or-set_other r (edge + i) k _ (pos 0) ne ∙ c.loop-i.invariant.before k h;
    }
