use Rattle.loaded_tests.proofs.CollectingCalls.{worker_row}
use Rattle.loaded_tests.proofs.LoneCalls.{lone_serves}
use Rattle.loaded_tests.proofs.collects.has_read.Goals as goal

pub read-requires-clause-actor : goal.read-requires-clause-actor
read-requires-clause-actor g c κs within = lone_serves (g.S.Steps.view c.args.steps.now) 0 c.requires.lone

pub read-requires-clause-row : goal.read-requires-clause-row
read-requires-clause-row g c κs within =
    worker_row c.args.worker.now (g.S.Steps.view c.args.steps.now) (g.S.Steps.stands c.args.steps.now) c.requires.lone
    c.requires.may

pub read-requires-clause-may : goal.read-requires-clause-may
read-requires-clause-may g c κs within = c.requires.may
