use Rattle.std.proofs.Common.{subst, sym}
use Rattle.std.specs.Prelude.{Ok}
use Rattle.ssd_geo.specs.declared.reply.Reply.{Reply}
use Rattle.ssd_geo.specs.declared.trace.Verb.{Verb}
use Rattle.actor_calls.specs.Ended.{EndsForAll}
use Rattle.actor_calls.proofs.EndedCalls.{age_answered, age_stopped}
use Rattle.actor_calls.proofs.single.age.Goals as goal

pub returns-in-Ok-clause-ends : goal.returns-in-Ok-clause-ends
returns-in-Ok-clause-ends g c =
    let old = g.S.Steps.view c.args.steps.now in
    let new = g.S.Steps.view c.age.new.self in
    subst
    (λ (reply : Reply). EndsForAll c.args.channels c.args.channel c.args.tag
    (Verb.Age c.args.channel c.args.die c.args.sb c.args.amount) old.seen new.seen (Ok reply)) (sym c.reply_to_age.ensures)
    (age_answered c.args.channels c.args.channel c.args.die c.args.sb c.args.amount c.args.tag old new
    c.ages_among_are_ages.ensures c.in-Ok.answer c.in-Ok.ensures.made)

pub returns-in-Err-clause-ends : goal.returns-in-Err-clause-ends
returns-in-Err-clause-ends g c =
    age_stopped c.args.channels c.args.channel c.args.die c.args.sb c.args.amount c.args.tag (g.S.Steps.view c.args.steps.now)
    (g.S.Steps.view c.age.new.self) c.ages_stop_begun.ensures c.in-Err.stop c.in-Err.ensures.made
