-- What does a source in memory do at a call? It gives as many bytes as it has and as there are places for, or fails
-- and gives none.
use Rattle.std.specs.Prelude.{ℕ, List, length, drop, min, if◌then◌else◌}
use Rattle.ssd_io.specs.ListedCalls.{Calls, is_next_listed, calls_after}

-- a source in memory: the bytes left, and its calls
pub record MemSourceView : Type 0 where
  pub left : List ℕ
  pub calls : Calls

-- how many bytes the next call gives, into so many places
abbrev pub given_count : MemSourceView → ℕ → ℕ
given_count source places = if is_next_listed source.calls then 0 else min places (length source.left)

-- the source after that call
abbrev pub source_after : MemSourceView → ℕ → MemSourceView
source_after source places = record {
  left = drop (given_count source places) source.left;
  calls = calls_after source.calls (is_next_listed source.calls);
}
