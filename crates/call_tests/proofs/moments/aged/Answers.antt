use Rattle.call_tests.proofs.TriedCalls.{die_is_of, serves_each, superblock_is_of, tried_step}
use Rattle.call_tests.proofs.moments.aged.Goals as goal

pub age-requires-clause-actor : goal.age-requires-clause-actor
age-requires-clause-actor g c =
    serves_each c.args.worker.now (g.S.Steps.view c.args.steps.now) (g.S.Steps.stands c.args.steps.now)
    c.requires c.tag.result.actor

pub age-requires-clause-die : goal.age-requires-clause-die
age-requires-clause-die g c =
    die_is_of c.args.worker.now (g.S.Steps.view c.args.steps.now) (g.S.Steps.stands c.args.steps.now) c.requires

pub age-requires-clause-sb : goal.age-requires-clause-sb
age-requires-clause-sb g c =
    superblock_is_of c.args.worker.now (g.S.Steps.view c.args.steps.now) (g.S.Steps.stands c.args.steps.now) c.requires

pub returns : goal.returns
returns g c =
    tried_step c.args.worker.now (g.S.Steps.view c.args.steps.now) (g.S.Steps.view c.age.new.self)
    (g.S.Steps.stands c.args.steps.now) (g.S.Steps.stands c.age.new.self) c.age.ensures.same c.age.ensures.goes_on c.requires
