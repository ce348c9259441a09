use Rattle.std.proofs.Common.{ℕ, ◌*◌, ◌^◌, ◌<◌, ◌≤◌, ◌≡◌, get_or, take}
use Rattle.std.specs.Prelude.{sum_by}
use Rattle.history_text.specs.Places.{placed_entries}
use Rattle.history_text.proofs.counts.count_histories.Given as goal

abbrev pub invariant-loop-entries : goal.invariant-loop-entries
invariant-loop-entries l = record {
  counted : (k : ℕ) → k < 10 → get_or l.counts k 0 ≡ sum_by (placed_entries k) (take l.entries-index l.histories);
  bound : (k : ℕ) → k < 10 → get_or l.counts k 0 ≤ l.entries-index * 2 ^ 64;
}
