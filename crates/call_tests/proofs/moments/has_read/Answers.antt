use Rattle.call_tests.proofs.TriedCalls.{row_is_in, serves_each, tried_call}
use Rattle.call_tests.proofs.moments.has_read.Goals as goal

pub read-requires-clause-actor : goal.read-requires-clause-actor
read-requires-clause-actor g c κs within =
    serves_each c.args.worker.now (g.S.Steps.view c.args.steps.now) (g.S.Steps.stands c.args.steps.now)
    c.requires c.tag.result.actor

pub read-requires-clause-row : goal.read-requires-clause-row
read-requires-clause-row g c κs within =
    row_is_in c.args.worker.now (g.S.Steps.view c.args.steps.now) (g.S.Steps.stands c.args.steps.now) c.requires

pub read-requires-clause-may : goal.read-requires-clause-may
read-requires-clause-may g c κs within = c.requires.may

pub returns : goal.returns
returns g c =
    tried_call c.args.worker.now c.read.new.self (g.S.Steps.view c.args.steps.now) (g.S.Steps.view c.read.new.steps)
    (g.S.Steps.stands c.args.steps.now) (g.S.Steps.stands c.read.new.steps) c.read.ensures.worker c.read.ensures.caller
    c.read.ensures.goes_on c.requires
