use Rattle.actor_calls.proofs.EndedCalls.{trim_answered, trim_stopped}
use Rattle.actor_calls.proofs.single.trim.Goals as goal

pub returns-in-Ok-clause-ends : goal.returns-in-Ok-clause-ends
returns-in-Ok-clause-ends g c =
    trim_answered c.args.channels c.args.page c.row_of.result c.row_of.ensures c.args.tag (g.S.Steps.view c.args.steps.now)
    (g.S.Steps.view c.trim.new.self) c.trims_among_are_trims.ensures tt c.in-Ok.ensures.made

pub returns-in-Err-clause-ends : goal.returns-in-Err-clause-ends
returns-in-Err-clause-ends g c =
    trim_stopped c.args.channels c.args.page c.row_of.result c.row_of.ensures c.args.tag (g.S.Steps.view c.args.steps.now)
    (g.S.Steps.view c.trim.new.self) c.trims_stop_begun.ensures c.in-Err.stop c.in-Err.ensures.made
