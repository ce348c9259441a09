use Rattle.std.proofs.Common.{◌≡◌, ℕ, ◌+◌, ◌-◌, ◌*◌, ◌%◌, get_or, pos, ◌+ℤ◌, inl, inr, subst, ◌∙◌, rules, arith}
use Rattle.std.proofs.lemmas.Bool.{cases_lt}
use Rattle.lane_layer.specs.Rows.{IsToldCode, number_of}
use Rattle.lane_layer.proofs.TurnedRows.{by_runs}
use Rattle.lane_layer.proofs.layer.leave_block.Goals as goal

pub leave-requires-2-clause-codes : goal.leave-requires-2-clause-codes
leave-requires-2-clause-codes c = λ i h.
    let rows = c.args.z - c.from-shift.result in
    let shift : c.from-shift.result ≡ c.args.block.1 = search rules in
    let at : c.args.edge + (rows + i) ≡ c.args.edge + rows + i = omega arith in
    subst (λ (k : ℕ). IsToldCode (get_or c.args.told.now k 0)) at (c.requires.codes (rows + i) (omega arith))

pub returns-clause-variables : goal.returns-clause-variables
returns-clause-variables c =
    let z = c.args.z in
    let edge = c.args.edge in
    let s = c.from-shift.result in
    let first = c.from.result * z in
    let given = c.args.given.now in
    let told = c.args.told.now in
    let p = c.leave-2.new.p in
    let is = λ (at v : ℕ). get_or p v (pos 0) ≡ number_of (get_or given at 0) +ℤ number_of (get_or told at 0) in
    let column : c.from.result ≡ c.args.block.0 = search rules in
    let shift : s ≡ c.args.block.1 = search rules in
    let all = by_runs (λ u v. is (edge + u) v) z s first (omega arith)
    (λ i h. c.leave-2.ensures.others (first + s + i) (inr (omega arith)) ∙ c.leave.ensures.variables i h)
    (λ i h. let at : edge + (z - s) + i ≡ edge + (z - s + i) = omega arith in subst (λ (k : ℕ). is k (first + i)) at (c.leave-2.ensures.variables i h)) in
    λ u h. subst (λ (n : ℕ). is (edge + u) (n * z + (u + c.args.block.1) % z)) column (subst (λ (n : ℕ). is (edge + u) (first + (u + n) % z)) shift (all u h))

pub returns-clause-edges : goal.returns-clause-edges
returns-clause-edges c = λ u h.
    let rows = c.args.z - c.from-shift.result in
    let edge = c.args.edge in
    let shift : c.from-shift.result ≡ c.args.block.1 = search rules in
    elim (cases_lt u rows) [
      | inl low ↦ c.leave-2.ensures.before (edge + u) (omega arith) ∙ c.leave.ensures.edges u low
      | inr high ↦
          let at : edge + rows + (u - rows) ≡ edge + u = omega arith in
          subst (λ (k : ℕ). get_or c.leave-2.new.r k (pos 0) ≡ number_of (get_or c.args.told.now k 0)) at (c.leave-2.ensures.edges (u - rows) (omega arith))
    ]
