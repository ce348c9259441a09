use Rattle.collector.proofs.FirstCallers.{may_still}
use Rattle.loaded_tests.proofs.LoneCalls.{lone_serves, lone_still}
use Rattle.loaded_tests.proofs.collects.collected.Goals as goal

pub collect-requires-clause-actor : goal.collect-requires-clause-actor
collect-requires-clause-actor g c κs within = lone_serves (g.S.Steps.view c.args.steps.now) 0 c.requires.lone

pub collect-requires-clause-may : goal.collect-requires-clause-may
collect-requires-clause-may g c κs within = c.requires.may

pub returns-clause-lone : goal.returns-clause-lone
returns-clause-lone g c =
    lone_still (g.S.Steps.view c.args.steps.now) (g.S.Steps.view c.collect.new.steps) c.collect.ensures.caller c.requires.lone

pub returns-clause-may : goal.returns-clause-may
returns-clause-may g c =
    may_still c.args.worker.now c.collect.new.worker (g.S.Steps.view c.args.steps.now) (g.S.Steps.view c.collect.new.steps)
    (g.S.Steps.stands c.args.steps.now) (g.S.Steps.stands c.collect.new.steps) c.collect.ensures.worker
    c.collect.ensures.caller c.collect.ensures.goes_on c.requires.may
