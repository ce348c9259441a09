use Rattle.std.proofs.Common.{ℕ, ◌+◌, ◌<◌, ◌≤◌, ◌≡◌, get_or, drop}
use Rattle.std.specs.Prelude.{zip}
use Rattle.history_text.specs.Places.{placed_calls}
use Rattle.history_text.proofs.call_counts.count_actor.Given as goal

abbrev pub invariant-loop-call : goal.invariant-loop-call
invariant-loop-call l = record {
  counted : (k : ℕ) → k < 10 → get_or l.counts k 0 + placed_calls k (zip (drop l.call l.kinds) (drop l.call l.replies)) ≡ get_or l.initial.counts k 0 + placed_calls k (zip l.kinds l.replies);
  bound : (k : ℕ) → k < 10 → get_or l.counts k 0 ≤ get_or l.initial.counts k 0 + l.call;
}
