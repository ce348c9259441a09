-- The calls so far were served.
use Rattle.std.proofs.Common.{◌≡◌, length, map, take}
use Rattle.shared_steps.specs.Sharing.{view_of_shared}
use Rattle.ctl.specs.Asked.{settings}
use Rattle.actor_calls.specs.Known.{AreKnown, AreSameCallers}
use Rattle.actor_calls.proofs.ActorSteps.{ActsSoFar}
use Rattle.actor_calls.proofs.acting.serve_actor.Given as goal

abbrev pub invariant-loop-call : goal.invariant-loop-call
invariant-loop-call g l = record {
  same : settings l.worker ≡ settings l.fn.worker;
  bytes : length l.bytes ≡ length l.fn.bytes;
  callers :
      AreSameCallers (map (λ shared. view_of_shared shared.turns.now shared.pass g.J.Contents.contents) l.fn.channels)
      (map (λ shared. view_of_shared shared.turns.now shared.pass g.J.Contents.contents) l.channels);
  known :
      AreKnown (settings l.fn.worker) l.actor
      (map (λ shared. view_of_shared shared.turns.now shared.pass g.J.Contents.contents) l.channels);
  so_far :
      ActsSoFar (map (λ shared. view_of_shared shared.turns.now shared.pass g.J.Contents.contents) l.fn.channels)
      (map (λ shared. view_of_shared shared.turns.now shared.pass g.J.Contents.contents) l.channels) l.actor
      (take l.call-index l.calls) l.replies.items l.fn.pass l.pass;
  queue : l.pass.queue ≡ l.hints;
}
