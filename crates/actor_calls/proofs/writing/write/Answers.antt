use Rattle.std.proofs.Common.{◌%◌, subst, sym}
use Rattle.std.specs.Prelude.{Ok}
use Rattle.shared_steps.specs.Sharing.{view_of_shared}
use Rattle.shared_steps.specs.Tracing.{stands_just_for}
use Rattle.ssd_geo.specs.declared.reply.Reply.{Reply}
use Rattle.ssd_geo.specs.declared.trace.Verb.{Verb}
use Rattle.actor_calls.specs.Ended.{EndsForEachWith}
use Rattle.actor_calls.proofs.EndedCalls.{write_answered, write_stopped}
use Rattle.actor_calls.proofs.writing.write.Goals as goal

pub returns-in-Ok-clause-ends : goal.returns-in-Ok-clause-ends
returns-in-Ok-clause-ends g c = λ content.
    let old = view_of_shared c.args.steps.now.turns.now c.args.steps.now.pass g.J.Contents.contents in
    let new = view_of_shared c.write_shared.new.steps.turns.now c.write_shared.new.steps.pass g.J.Contents.contents in
    subst
    (λ (reply : Reply). EndsForEachWith c.args.worker.now old
    (stands_just_for c.args.steps.now.turns.now.start g.J.Contents.contents) c.args.channels (c.args.page % c.args.channels)
    c.args.tag (Verb.Write c.args.page content) c.args.bytes.now new.seen (Ok reply)) (sym c.reply_to_write.ensures)
    (write_answered c.args.channels c.args.page c.row_of.result c.row_of.ensures c.args.tag old new c.args.worker.now
    (stands_just_for c.args.steps.now.turns.now.start g.J.Contents.contents) content c.args.bytes.now
    c.writes_among_are_writes.ensures c.in-Ok.ended c.in-Ok.ensures.made)

pub returns-in-Err-clause-ends : goal.returns-in-Err-clause-ends
returns-in-Err-clause-ends g c = λ content.
    write_stopped c.args.channels c.args.page c.row_of.result c.row_of.ensures c.args.tag
    (view_of_shared c.args.steps.now.turns.now c.args.steps.now.pass g.J.Contents.contents)
    (view_of_shared c.write_shared.new.steps.turns.now c.write_shared.new.steps.pass g.J.Contents.contents) c.args.worker.now
    (stands_just_for c.args.steps.now.turns.now.start g.J.Contents.contents) content c.args.bytes.now
    c.writes_stop_begun.ensures c.in-Err.stop c.in-Err.ensures.made
