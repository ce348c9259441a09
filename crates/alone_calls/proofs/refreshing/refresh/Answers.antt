use Rattle.alone_calls.proofs.RepliedRefreshes.{refresh_replies, refresh_room, refresh_stays}
use Rattle.alone_calls.proofs.refreshing.refresh.Goals as goal

pub returns-clause-room : goal.returns-clause-room
returns-clause-room g c =
    refresh_room c.args.worker.now (g.S.Steps.view c.args.steps.now) (g.S.Steps.view c.refresh.new.steps)
    (g.S.Steps.stands c.args.steps.now) c.args.tag c.args.row c.requires.alone c.requires.may c.refresh.result
    c.refresh.ensures.made

pub returns-clause-ok : goal.returns-clause-ok
returns-clause-ok g c =
    refresh_replies c.args.worker.now (g.S.Steps.view c.args.steps.now) (g.S.Steps.view c.refresh.new.steps)
    (g.S.Steps.stands c.args.steps.now) c.args.tag c.args.row c.requires.alone c.refreshes_alone_are_refreshes.ensures
    c.refresh.result c.refresh.ensures.made

pub returns-clause-memory : goal.returns-clause-memory
returns-clause-memory g c =
    refresh_stays c.args.worker.now (g.S.Steps.view c.args.steps.now) (g.S.Steps.view c.refresh.new.steps)
    (g.S.Steps.stands c.args.steps.now) c.args.tag c.args.row c.requires.alone c.requires.may c.refresh.result
    c.refresh.ensures.made
