-- The pages so far were refreshed, the pass took their hints, and there is room for all.
use Rattle.std.proofs.Common.{◌≡◌, ◌≤◌, length, map, vec_len}
use Rattle.std.specs.Vec.{vec_capacity}
use Rattle.shared_steps.specs.Sharing.{view_of_shared}
use Rattle.ctl.specs.Asked.{settings}
use Rattle.actor_calls.specs.Known.{AreKnown, AreSameCallers}
use Rattle.actor_calls.proofs.DrainSteps.{DrainsSoFar}
use Rattle.actor_calls.proofs.draining.drain.Given as goal

abbrev pub invariant-loop : goal.invariant-loop
invariant-loop g l = record {
  same : settings l.worker ≡ settings l.fn.worker;
  callers :
      AreSameCallers (map (λ shared. view_of_shared shared.turns.now shared.pass g.J.Contents.contents) l.fn.channels)
      (map (λ shared. view_of_shared shared.turns.now shared.pass g.J.Contents.contents) l.channels);
  known :
      AreKnown (settings l.fn.worker) l.tag.actor
      (map (λ shared. view_of_shared shared.turns.now shared.pass g.J.Contents.contents) l.channels);
  so_far :
      DrainsSoFar (map (λ shared. view_of_shared shared.turns.now shared.pass g.J.Contents.contents) l.fn.channels)
      (map (λ shared. view_of_shared shared.turns.now shared.pass g.J.Contents.contents) l.channels) l.tag l.pages.items
      l.fn.pass l.pass;
  queue : l.pass.queue ≡ l.hints;
  count : length l.pages.items ≡ l.counter;
  len : vec_len l.pages ≡ l.counter;
  room : l.count ≤ vec_capacity l.pages;
}
