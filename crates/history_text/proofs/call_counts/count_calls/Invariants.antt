use Rattle.std.proofs.Common.{ℕ, ◌+◌, ◌*◌, ◌^◌, ◌<◌, ◌≤◌, ◌≡◌, get_or, drop}
use Rattle.ssd_formats.specs.RunText.{answered_calls}
use Rattle.history_text.specs.Places.{placed_calls}
use Rattle.history_text.proofs.call_counts.count_calls.Given as goal

abbrev pub invariant-loop-actor : goal.invariant-loop-actor
invariant-loop-actor l = record {
  counted : (k : ℕ) → k < 10 → get_or l.counts k 0 + placed_calls k (answered_calls (drop l.actor l.kinds) (drop l.actor l.replies)) ≡ placed_calls k (answered_calls l.kinds l.replies);
  bound : (k : ℕ) → k < 10 → get_or l.counts k 0 ≤ l.actor * 2 ^ 64;
}
