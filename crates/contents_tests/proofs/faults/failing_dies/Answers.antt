use Rattle.std.proofs.Common.{◌≡◌, List, map, subst, sym, ap, ◌∙◌}
use Rattle.std.specs.Prelude.{is_some, true}
use Rattle.die_model.specs.Listed.{Listed, listed_state}
use Rattle.die_model.specs.SimState.{state_of}
use Rattle.die_model.specs.declared.sim_die.SimDie.{SimDie}
use Rattle.drive_dies.specs.Mounting.{AllTell}
use Rattle.drive_dies.proofs.HandedDies.{one_more_tells}
use Rattle.onfi_cmd.specs.DieState.{DieState}
use Rattle.contents_tests.proofs.faults.failing_dies.Invariants.{failing_state}
use Rattle.contents_tests.proofs.faults.failing_dies.Goals as goal

pub loop-load-preserved : goal.loop-load-preserved
loop-load-preserved c =
    let next : Listed SimDie = c.new-die.result in
    let tells : is_some (failing_state next).told ≡ true =
    ap (λ (die : Listed SimDie). is_some (listed_state state_of die).told) c.new-die.ensures
    ∙ ap (λ (state : DieState). is_some state.told) c.new-inner.ensures in
    subst (λ (dies : List (Listed SimDie)). AllTell (map failing_state dies)) (sym c.in_ok-push.ensures.items)
    (one_more_tells failing_state c.loop-load.dies.items next c.loop-load.invariant tells)
