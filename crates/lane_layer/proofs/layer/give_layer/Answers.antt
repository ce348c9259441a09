use Rattle.std.proofs.Common.{◌≡◌, ℕ, ◌+◌, ◌*◌, ◌<◌, ◌≤◌, length, get_or, inl, inr, subst, sym, ap, ◌∙◌, arith}
use Rattle.std.proofs.lemmas.Bool.{cases_eq}
use Rattle.std.proofs.Math.Nat.{mul-le-mul_right}
use Rattle.minsum_layer.proofs.Gathered.{given_at}
use Rattle.lane_layer.specs.Rows.{number_of}
use Rattle.lane_layer.proofs.WholeLayer.{all_by_edges, code_from_given, rows_from_given}
use Rattle.lane_layer.proofs.layer.give_layer.Goals as goal

pub loop-e-preserved : goal.loop-e-preserved
loop-e-preserved c = λ f u in_f in_u.
    let z = c.args.z in
    let e = c.loop-e.e in
    let is = λ (g : ℕ). number_of (get_or c.give_block.new.given (g * z + u) 0) ≡ given_at c.args.layer.now z u c.args.p.now c.args.r.now g in
    elim (cases_eq f e) [
      | inl same ↦ subst is (sym same) (c.give_block.ensures.given u in_u)
      | inr other ↦
          let less : f + 1 ≤ e = omega arith in
          let apart : (f + 1) * z ≤ e * z = mul-le-mul_right z less in
          ap number_of (c.give_block.ensures.before (f * z + u) (omega arith)) ∙ c.loop-e.invariant f u (omega arith) in_u
    ]

pub returns-clause-rows : goal.returns-clause-rows
returns-clause-rows c = λ u l.
    rows_from_given c.args.layer.now c.args.z u c.args.p.now c.args.r.now c.loop-e.given (λ f q. c.loop-e.invariant f u (omega arith) l)

pub returns-clause-codes : goal.returns-clause-codes
returns-clause-codes c =
    let layer = c.args.layer.now in
    let z = c.args.z in
    let some : 0 < z = (let one : (get_or layer 0 (0, 0)).1 < z = c.requires.blocks.shifts 0 (0, 0) (omega (arith, c.requires.blocks.at_least)) in omega arith) in
    all_by_edges (λ n. n ≤ 254) c.loop-e.given (length layer) z some (omega arith) (λ f u q l. code_from_given layer z u c.args.p.now c.args.r.now _ f (c.loop-e.invariant f u (omega arith) l))
