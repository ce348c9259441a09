use Rattle.std.proofs.Common.{sym}
use Rattle.call_tests.proofs.TriedCalls.{data_are_whole, row_is_in, serves_each, takes_any, tried_write}
use Rattle.call_tests.proofs.moments.written.Goals as goal

pub write_once-requires-clause-actor : goal.write_once-requires-clause-actor
write_once-requires-clause-actor g c κs within =
    serves_each c.args.worker.now (g.S.Steps.view c.args.steps.now) (g.S.Steps.stands c.args.steps.now)
    c.requires.may 0

pub write_once-requires-clause-row : goal.write_once-requires-clause-row
write_once-requires-clause-row g c κs within =
    row_is_in c.args.worker.now (g.S.Steps.view c.args.steps.now) (g.S.Steps.stands c.args.steps.now) c.requires.may

pub write_once-requires-clause-bytes : goal.write_once-requires-clause-bytes
write_once-requires-clause-bytes g c κs within =
    sym (data_are_whole c.args.worker.now (g.S.Steps.view c.args.steps.now) (g.S.Steps.stands c.args.steps.now) c.requires.may)

pub write_once-requires-clause-takes : goal.write_once-requires-clause-takes
write_once-requires-clause-takes g c κs within =
    takes_any c.args.worker.now (g.S.Steps.view c.args.steps.now) (g.S.Steps.stands c.args.steps.now)
    c.requires.may _ _

pub write_once-requires-clause-may : goal.write_once-requires-clause-may
write_once-requires-clause-may g c κs within = c.requires.may.may

pub returns : goal.returns
returns g c =
    tried_write c.args.worker.now c.write_once.new.self (g.S.Steps.view c.args.steps.now)
    (g.S.Steps.view c.write_once.new.steps)
    (g.S.Steps.stands c.args.steps.now) (g.S.Steps.stands c.write_once.new.steps) c.write_once.ensures.worker
    c.write_once.ensures.caller c.write_once.ensures.goes_on c.requires.may
