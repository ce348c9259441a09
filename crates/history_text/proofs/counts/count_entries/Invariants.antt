use Rattle.std.proofs.Common.{ℕ, ◌+◌, ◌<◌, ◌≡◌, get_or, take}
use Rattle.history_text.specs.Places.{placed_entries}
use Rattle.history_text.proofs.counts.count_entries.Given as goal

abbrev pub invariant-loop-entry : goal.invariant-loop-entry
invariant-loop-entry l = (k : ℕ) → k < 10 → get_or l.counts k 0 ≡ get_or l.initial.counts k 0 + placed_entries k (take l.entry-index l.entries)
