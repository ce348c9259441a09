use Rattle.std.proofs.Common.{◌≡◌, ◌++◌, List, All, vec_len}
use Rattle.hint_queue.specs.Gathered.{HasPasses, IsWhole}
use Rattle.hint_queue.specs.Orders.{HintPassState}
use Rattle.hint_queue.proofs.hints.Hints.gathered.Given as goal

abbrev pub invariant-loop-pass : goal.invariant-loop-pass
invariant-loop-pass l = record {
  whole : IsWhole l.self l.whole.place l.whole.teller;
  left : All (λ pass. pass.queue ≡ l.self) l.passes.items;
  so_far : (done : List HintPassState) × (l.fn.passes.items ≡ l.passes.items ++ done) × HasPasses l.self done l.whole.place l.whole.teller;
}

abbrev pub decreases-loop-pass : goal.decreases-loop-pass
decreases-loop-pass l = vec_len l.passes
