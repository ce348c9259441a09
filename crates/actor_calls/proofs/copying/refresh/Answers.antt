use Rattle.std.proofs.Common.{◌%◌, subst, sym}
use Rattle.std.specs.Prelude.{Ok}
use Rattle.ssd_geo.specs.declared.reply.Reply.{Reply}
use Rattle.ssd_geo.specs.declared.trace.Verb.{Verb}
use Rattle.actor_calls.specs.Ended.{EndsForEach}
use Rattle.actor_calls.proofs.EndedCalls.{refresh_answered, refresh_stopped}
use Rattle.actor_calls.proofs.copying.refresh.Goals as goal

pub returns-in-Ok-clause-ends : goal.returns-in-Ok-clause-ends
returns-in-Ok-clause-ends g c =
    let old = g.S.Steps.view c.args.steps.now in
    let new = g.S.Steps.view c.refresh.new.steps in
    let stood = g.S.Steps.stands c.args.steps.now in
    subst
    (λ (reply : Reply). EndsForEach c.args.worker.now old stood c.args.channels (c.args.page % c.args.channels) c.args.tag
    (Verb.Refresh c.args.page) new.seen (Ok reply)) (sym c.reply_of_refresh.ensures)
    (refresh_answered c.args.channels c.args.page c.row_of.result c.row_of.ensures c.args.tag old new c.args.worker.now stood
    c.refresh_calls_among_are_refreshes.ensures c.in-Ok.reply c.in-Ok.ensures.made)

pub returns-in-Err-clause-ends : goal.returns-in-Err-clause-ends
returns-in-Err-clause-ends g c =
    refresh_stopped c.args.channels c.args.page c.row_of.result c.row_of.ensures c.args.tag (g.S.Steps.view c.args.steps.now)
    (g.S.Steps.view c.refresh.new.steps) c.args.worker.now (g.S.Steps.stands c.args.steps.now) c.refreshes_stop_begun.ensures
    c.in-Err.stop c.in-Err.ensures.made
