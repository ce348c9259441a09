-- The turns so far left the write to go on.
use Rattle.shared_steps.specs.Sharing.{view_of_shared}
use Rattle.shared_steps.specs.Tracing.{stands_just_for}
use Rattle.collector.proofs.WriteSteps.{HasWritten}
use Rattle.shared_writes.proofs.writing.write_shared.Given as goal

abbrev pub invariant-turns : goal.invariant-turns
invariant-turns g l =
    HasWritten l.fn.worker l.worker (view_of_shared l.fn.steps.turns.now l.fn.steps.pass g.J.Contents.contents)
    (view_of_shared l.steps.turns.now l.steps.pass g.J.Contents.contents)
    (stands_just_for l.fn.steps.turns.now.start g.J.Contents.contents)
    (stands_just_for l.steps.turns.now.start g.J.Contents.contents) l.tag l.row l.bytes
