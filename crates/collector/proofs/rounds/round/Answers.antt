use Rattle.std.proofs.Common.{refl}
use Rattle.collector.proofs.FirstCallers.{goes_on_both, goes_on_step, may_after}
use Rattle.collector.proofs.RoundSteps.{none_picked, victim_picked, victim_there}
use Rattle.collector.proofs.rounds.round.Goals as goal

pub empty-requires-clause-may : goal.empty-requires-clause-may
empty-requires-clause-may g c κs within =
    may_after c.args.worker.now (g.S.Steps.view c.args.steps.now) (g.S.Steps.view c.pick.new.self) (g.S.Steps.stands
    c.args.steps.now) (g.S.Steps.stands c.pick.new.self) c.pick.ensures.same c.pick.ensures.goes_on
    c.requires.may

pub empty-requires-in-Busy-clause-may : goal.empty-requires-in-Busy-clause-may
empty-requires-in-Busy-clause-may g c κs within =
    may_after c.args.worker.now (g.S.Steps.view c.args.steps.now) (g.S.Steps.view c.pick.new.self) (g.S.Steps.stands
    c.args.steps.now) (g.S.Steps.stands c.pick.new.self) c.pick.ensures.same c.pick.ensures.goes_on
    c.requires.may

pub returns-in-Picked-clause-goes_on : goal.returns-in-Picked-clause-goes_on
returns-in-Picked-clause-goes_on g c =
    goes_on_both c.args.worker.now c.args.worker.now (g.S.Steps.view c.args.steps.now) (g.S.Steps.view c.pick.new.self)
    (g.S.Steps.view c.empty.new.steps) (g.S.Steps.stands c.args.steps.now) (g.S.Steps.stands c.pick.new.self)
    (g.S.Steps.stands c.empty.new.steps) refl
    (goes_on_step c.args.worker.now (g.S.Steps.view c.args.steps.now) (g.S.Steps.view c.pick.new.self) (g.S.Steps.stands
    c.args.steps.now) (g.S.Steps.stands c.pick.new.self) c.pick.ensures.goes_on) c.empty.ensures.goes_on

pub returns-in-Picked-clause-made : goal.returns-in-Picked-clause-made
returns-in-Picked-clause-made g c =
    victim_picked c.args.worker.now (g.S.Steps.view c.args.steps.now) (g.S.Steps.view c.pick.new.self) (g.S.Steps.stands
    c.args.steps.now) (g.S.Steps.stands c.pick.new.self) c.args.tag c.in-Picked.sb (g.S.Steps.view c.empty.new.steps).seen
    c.empty.result
    c.pick.ensures.same c.pick.ensures.goes_on c.empty.ensures.made (rw c.in-Picked.is at c.in_ok-sb.ensures.made)

pub returns-in-Busy-clause-made : goal.returns-in-Busy-clause-made
returns-in-Busy-clause-made g c =
    victim_there c.args.worker.now (g.S.Steps.view c.args.steps.now) (g.S.Steps.view c.pick.new.self) (g.S.Steps.stands
    c.args.steps.now) (g.S.Steps.stands c.pick.new.self) c.args.tag c.in-Busy.sb (g.S.Steps.view
    c.empty-in-Busy.new.steps).seen c.empty-in-Busy.result
    c.pick.ensures.same c.pick.ensures.goes_on c.empty-in-Busy.ensures.made (rw c.in-Busy.is at c.in_ok-sb.ensures.made)

pub returns-in-ReadOnly-clause-made : goal.returns-in-ReadOnly-clause-made
returns-in-ReadOnly-clause-made g c =
    none_picked c.args.worker.now (g.S.Steps.view c.args.steps.now) (g.S.Steps.view c.pick.new.self) (g.S.Steps.stands
    c.args.steps.now)
    (g.S.Steps.stands c.pick.new.self) c.args.tag c.in_ok-sb.field-0 c.in-ReadOnly.is c.in_ok-sb.ensures.made
