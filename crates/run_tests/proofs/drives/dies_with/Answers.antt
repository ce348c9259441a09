use Rattle.std.proofs.Common.{◌≡◌, List, [], ◌∷◌, map, length, subst, sym, ap, ◌∙◌, arith, length-append}
use Rattle.std.specs.Prelude.{is_some, true}
use Rattle.die_model.specs.Listed.{Listed, listed_state}
use Rattle.die_model.specs.SimState.{state_of}
use Rattle.die_model.specs.declared.sim_die.SimDie.{SimDie}
use Rattle.drive_dies.specs.Mounting.{AllTell}
use Rattle.onfi_cmd.specs.DieState.{DieState}
use Rattle.drive_dies.proofs.HandedDies.{one_more_tells}
use Rattle.run_tests.proofs.drives.dies_with.Invariants.{tried_state}
use Rattle.run_tests.specs.declared.tried_die.TriedDie.{TriedDie}
use Rattle.run_tests.proofs.drives.dies_with.Goals as goal

pub loop-die-preserved : goal.loop-die-preserved
loop-die-preserved c =
    let next : TriedDie = record { inner = c.new-in-loop-die.result } in
    let tells : is_some (tried_state next).told ≡ true =
    ap (λ (die : Listed SimDie). is_some (listed_state state_of die).told) c.new-in-loop-die.ensures
    ∙ ap (λ (state : DieState). is_some state.told) c.new.ensures in
    let more = length-append c.loop-die.dies.items (next ∷ []) in
    let long = ap (λ (dies : List TriedDie). length dies) c.in_ok-push.ensures.items in
    let before = c.loop-die.invariant.count in
    record {
      count = omega (arith, more, long, before);
      tell =
          subst (λ (dies : List TriedDie). AllTell (map tried_state dies)) (sym c.in_ok-push.ensures.items)
          (one_more_tells tried_state c.loop-die.dies.items next c.loop-die.invariant.tell tells);
    }
