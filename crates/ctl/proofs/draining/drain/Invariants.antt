-- The pages so far were refreshed, and there is room for all.
use Rattle.std.proofs.Common.{◌≡◌, ◌≤◌, length, map, vec_len}
use Rattle.std.specs.Vec.{vec_capacity}
use Rattle.ctl.proofs.DrainSteps.{DrainsSoFar}
use Rattle.ctl.proofs.SeenChannels.{seen_by}
use Rattle.ctl.specs.Asked.{settings}
use Rattle.ctl.proofs.draining.drain.Given as goal

abbrev pub invariant-loop : goal.invariant-loop
invariant-loop g l = record {
  same : settings l.worker ≡ settings l.fn.worker;
  so_far :
      DrainsSoFar (settings l.fn.worker) (map (seen_by g.P.Policy.told) l.fn.channels) (map (seen_by g.P.Policy.told) l.channels)
      l.fn.hints l.hints l.tag l.pages.items;
  count : length l.pages.items ≡ l.counter;
  len : vec_len l.pages ≡ l.counter;
  room : l.count ≤ vec_capacity l.pages;
}
