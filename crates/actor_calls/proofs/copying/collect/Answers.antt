use Rattle.std.proofs.Common.{subst, sym}
use Rattle.std.specs.Prelude.{Ok}
use Rattle.ssd_geo.specs.declared.reply.Reply.{Reply}
use Rattle.ssd_geo.specs.declared.trace.Verb.{Verb}
use Rattle.actor_calls.specs.Ended.{EndsForEach}
use Rattle.actor_calls.proofs.EndedCalls.{collect_answered, collect_stopped}
use Rattle.actor_calls.proofs.copying.collect.Goals as goal

pub returns-in-Ok-clause-ends : goal.returns-in-Ok-clause-ends
returns-in-Ok-clause-ends g c =
    let old = g.S.Steps.view c.args.steps.now in
    let new = g.S.Steps.view c.collect.new.steps in
    let stood = g.S.Steps.stands c.args.steps.now in
    subst
    (λ (reply : Reply). EndsForEach c.args.worker.now old stood c.args.channels c.args.channel c.args.tag
    (Verb.Collect c.args.channel) new.seen (Ok reply)) (sym c.reply_to_collect.ensures)
    (collect_answered c.args.channels c.args.channel c.args.tag old new c.args.worker.now stood
    (g.S.Steps.stands c.collect.new.steps) c.collects_among_are_collects.ensures c.in-Ok.ensures.goes_on c.in-Ok.ended
    c.in-Ok.ensures.made)

pub returns-in-Err-clause-ends : goal.returns-in-Err-clause-ends
returns-in-Err-clause-ends g c =
    collect_stopped c.args.channels c.args.channel c.args.tag (g.S.Steps.view c.args.steps.now)
    (g.S.Steps.view c.collect.new.steps) c.args.worker.now (g.S.Steps.stands c.args.steps.now)
    (g.S.Steps.stands c.collect.new.steps) c.collects_stop_begun.ensures c.in-Err.stop c.in-Err.ensures.made
