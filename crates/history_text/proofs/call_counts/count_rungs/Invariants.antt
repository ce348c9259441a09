use Rattle.std.proofs.Common.{ℕ, length, ◌*◌, ◌^◌, ◌<◌, ◌≤◌, ◌≡◌, get_or, take}
use Rattle.std.specs.Prelude.{sum_by}
use Rattle.history_text.specs.Places.{placed_rungs}
use Rattle.history_text.proofs.call_counts.count_rungs.Given as goal

abbrev pub invariant-loop-given : goal.invariant-loop-given
invariant-loop-given l = record {
  counted : (k : ℕ) → k < 257 → get_or l.counts k 0 ≡ sum_by (placed_rungs k) (take l.given-index l.replies);
  bound : (k : ℕ) → k < 257 → get_or l.counts k 0 ≤ l.given-index * 2 ^ 64;
  len : length l.counts ≡ 257;
}
