use Rattle.std.proofs.Common.{◌≡◌, List, map, subst, sym, ap}
use Rattle.std.specs.Prelude.{is_some, true}
use Rattle.die_model.specs.SimState.{state_of}
use Rattle.die_model.specs.declared.sim_die.SimDie.{SimDie}
use Rattle.drive_dies.specs.Mounting.{AllTell}
use Rattle.drive_dies.proofs.HandedDies.{one_more_tells}
use Rattle.onfi_cmd.specs.DieState.{DieState}
use Rattle.contents_tests.proofs.images.blank_dies.Goals as goal

pub loop-preserved : goal.loop-preserved
loop-preserved c =
    let next : SimDie = c.new.result in
    let tells : is_some (state_of next).told ≡ true = ap (λ (state : DieState). is_some state.told) c.new.ensures in
    subst (λ (dies : List SimDie). AllTell (map state_of dies)) (sym c.in_ok-push.ensures.items)
    (one_more_tells state_of c.loop.dies.items next c.loop.invariant tells)
