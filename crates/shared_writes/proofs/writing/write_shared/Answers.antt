use Rattle.collector.proofs.WriteSteps.{may_write_next, none_written, one_turn_more, write_ended, write_stopped}
use Rattle.shared_steps.specs.Sharing.{view_of_shared}
use Rattle.shared_steps.specs.Tracing.{stands_just_for}
use Rattle.shared_writes.proofs.writing.write_shared.Goals as goal

pub turns-init : goal.turns-init
turns-init g c =
    none_written c.args.worker.now (view_of_shared c.args.steps.now.turns.now c.args.steps.now.pass g.J.Contents.contents)
    (stands_just_for c.args.steps.now.turns.now.start g.J.Contents.contents) c.args.tag c.args.row c.args.bytes.now

pub write_or_round-requires-clause-may : goal.write_or_round-requires-clause-may
write_or_round-requires-clause-may g c κs within =
    may_write_next c.args.worker.now c.turns.worker
    (view_of_shared c.args.steps.now.turns.now c.args.steps.now.pass g.J.Contents.contents)
    (view_of_shared c.turns.steps.turns.now c.turns.steps.pass g.J.Contents.contents)
    (stands_just_for c.args.steps.now.turns.now.start g.J.Contents.contents)
    (stands_just_for c.turns.steps.turns.now.start g.J.Contents.contents)
    c.args.tag c.args.row c.args.bytes.now c.turns.invariant c.requires.may

pub turns-preserved : goal.turns-preserved
turns-preserved g c =
    one_turn_more c.args.worker.now c.turns.worker
    (view_of_shared c.args.steps.now.turns.now c.args.steps.now.pass g.J.Contents.contents)
    (view_of_shared c.turns.steps.turns.now c.turns.steps.pass g.J.Contents.contents)
    (stands_just_for c.args.steps.now.turns.now.start g.J.Contents.contents)
    (stands_just_for c.turns.steps.turns.now.start g.J.Contents.contents)
    c.args.tag c.args.row c.args.bytes.now c.turns.invariant
    c.write_or_round.new.worker (view_of_shared c.write_or_round.new.steps.turns.now c.write_or_round.new.steps.pass g.J.Contents.contents)
    (stands_just_for c.write_or_round.new.steps.turns.now.start g.J.Contents.contents)
    c.write_or_round.ensures.worker c.write_or_round.ensures.caller c.write_or_round.ensures.goes_on
    (rw c.in-None-2.is at c.in_ok-reply.ensures.made)

pub returns-in_err-reply-clause-made : goal.returns-in_err-reply-clause-made
returns-in_err-reply-clause-made g c =
    write_stopped c.args.worker.now c.turns.worker
    (view_of_shared c.args.steps.now.turns.now c.args.steps.now.pass g.J.Contents.contents)
    (view_of_shared c.turns.steps.turns.now c.turns.steps.pass g.J.Contents.contents)
    (stands_just_for c.args.steps.now.turns.now.start g.J.Contents.contents)
    (stands_just_for c.turns.steps.turns.now.start g.J.Contents.contents)
    c.args.tag c.args.row c.args.bytes.now c.turns.invariant
    c.write_or_round.new.worker (view_of_shared c.write_or_round.new.steps.turns.now c.write_or_round.new.steps.pass g.J.Contents.contents)
    (stands_just_for c.write_or_round.new.steps.turns.now.start g.J.Contents.contents)
    c.write_or_round.ensures.worker c.write_or_round.ensures.caller c.write_or_round.ensures.goes_on
    c.in_err-reply.field-0.0 c.in_err-reply.ensures.made c.from_residual.result c.from_residual.ensures.1

pub returns-in-Some-2-clause-made : goal.returns-in-Some-2-clause-made
returns-in-Some-2-clause-made g c =
    write_ended c.args.worker.now c.turns.worker
    (view_of_shared c.args.steps.now.turns.now c.args.steps.now.pass g.J.Contents.contents)
    (view_of_shared c.turns.steps.turns.now c.turns.steps.pass g.J.Contents.contents)
    (stands_just_for c.args.steps.now.turns.now.start g.J.Contents.contents)
    (stands_just_for c.turns.steps.turns.now.start g.J.Contents.contents)
    c.args.tag c.args.row c.args.bytes.now c.turns.invariant
    c.write_or_round.new.worker (view_of_shared c.write_or_round.new.steps.turns.now c.write_or_round.new.steps.pass g.J.Contents.contents)
    (stands_just_for c.write_or_round.new.steps.turns.now.start g.J.Contents.contents)
    c.write_or_round.ensures.worker c.write_or_round.ensures.caller c.write_or_round.ensures.goes_on
    c.in-Some-2.reply (rw c.in-Some-2.is at c.in_ok-reply.ensures.made)
