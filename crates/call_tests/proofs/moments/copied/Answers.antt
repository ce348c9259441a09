use Rattle.call_tests.proofs.TriedCalls.{look_is_fresh, row_is_of, serves_each, tried_call, tried_step}
use Rattle.call_tests.proofs.moments.copied.Goals as goal

pub look-requires-clause-actor : goal.look-requires-clause-actor
look-requires-clause-actor g c =
    serves_each c.args.worker.now (g.S.Steps.view c.args.steps.now) (g.S.Steps.stands c.args.steps.now)
    c.requires c.tag-by.result.actor

pub look-requires-clause-row : goal.look-requires-clause-row
look-requires-clause-row g c =
    row_is_of c.args.worker.now (g.S.Steps.view c.args.steps.now) (g.S.Steps.stands c.args.steps.now) c.requires

pub copy-requires-clause-actor : goal.copy-requires-clause-actor
copy-requires-clause-actor g c κs within =
    serves_each c.args.worker.now (g.S.Steps.view c.look.new.self) (g.S.Steps.stands c.look.new.self)
    (tried_step c.args.worker.now (g.S.Steps.view c.args.steps.now) (g.S.Steps.view c.look.new.self)
    (g.S.Steps.stands c.args.steps.now) (g.S.Steps.stands c.look.new.self)
    c.look.ensures.same c.look.ensures.goes_on c.requires)
    c.tag-by.result.actor

pub copy-requires-clause-fresh : goal.copy-requires-clause-fresh
copy-requires-clause-fresh g c κs within =
    look_is_fresh c.args.worker.now (g.S.Steps.view c.args.steps.now) (g.S.Steps.view c.look.new.self)
    (g.S.Steps.stands c.args.steps.now) (g.S.Steps.stands c.look.new.self) c.tag-by.result 5 c.in-Found.look c.requires
    c.look.ensures.same c.look.ensures.goes_on (rw c.in-Found.is at c.in_ok-look.ensures.made)

pub copy-requires-clause-may : goal.copy-requires-clause-may
copy-requires-clause-may g c κs within =
    (tried_step c.args.worker.now (g.S.Steps.view c.args.steps.now) (g.S.Steps.view c.look.new.self)
    (g.S.Steps.stands c.args.steps.now) (g.S.Steps.stands c.look.new.self)
    c.look.ensures.same c.look.ensures.goes_on c.requires).may

pub returns-in-Found : goal.returns-in-Found
returns-in-Found g c =
    tried_call c.args.worker.now c.copy.new.self (g.S.Steps.view c.look.new.self) (g.S.Steps.view c.copy.new.steps)
    (g.S.Steps.stands c.look.new.self) (g.S.Steps.stands c.copy.new.steps) c.copy.ensures.worker c.copy.ensures.caller
    c.copy.ensures.goes_on
    (tried_step c.args.worker.now (g.S.Steps.view c.args.steps.now) (g.S.Steps.view c.look.new.self)
    (g.S.Steps.stands c.args.steps.now) (g.S.Steps.stands c.look.new.self)
    c.look.ensures.same c.look.ensures.goes_on c.requires)

pub returns-in_err-look : goal.returns-in_err-look
returns-in_err-look g c =
    tried_step c.args.worker.now (g.S.Steps.view c.args.steps.now) (g.S.Steps.view c.look.new.self)
    (g.S.Steps.stands c.args.steps.now) (g.S.Steps.stands c.look.new.self)
    c.look.ensures.same c.look.ensures.goes_on c.requires

pub returns-in_default : goal.returns-in_default
returns-in_default g c =
    tried_step c.args.worker.now (g.S.Steps.view c.args.steps.now) (g.S.Steps.view c.look.new.self)
    (g.S.Steps.stands c.args.steps.now) (g.S.Steps.stands c.look.new.self)
    c.look.ensures.same c.look.ensures.goes_on c.requires
