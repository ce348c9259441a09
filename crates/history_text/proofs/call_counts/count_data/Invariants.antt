use Rattle.std.proofs.Common.{ℕ, length, ◌+◌, ◌<◌, ◌≡◌, get_or, take}
use Rattle.history_text.specs.Places.{placed_rungs}
use Rattle.history_text.proofs.call_counts.count_data.Given as goal

abbrev pub invariant-loop-reply : goal.invariant-loop-reply
invariant-loop-reply l = record {
  counted : (k : ℕ) → k < 257 → get_or l.counts k 0 ≡ get_or l.initial.counts k 0 + placed_rungs k (take l.reply-index l.replies);
  len : length l.counts ≡ 257;
}
