-- What does a sink in memory do at a call? It takes what fits into its room, and fails where nothing fits or the
-- call is listed.
use Rattle.std.specs.Prelude.{ℕ, ◌-◌, Bool, ◌||◌, nat_le, List, ◌++◌, length, take, min, if◌then◌else◌}
use Rattle.ssd_io.specs.ListedCalls.{Calls, is_next_listed, calls_after}

-- a sink in memory: the bytes written, how many it has room for in all, and its calls
pub record MemSinkView : Type 0 where
  pub written : List ℕ
  pub room : ℕ
  pub calls : Calls

-- whether the next call fails: no room is left, or its number is listed
abbrev pub is_next_refused : MemSinkView → Bool
is_next_refused sink = nat_le sink.room (length sink.written) || is_next_listed sink.calls

-- how many bytes of a piece the next call takes
abbrev pub taken_count : MemSinkView → List ℕ → ℕ
taken_count sink piece = if is_next_refused sink then 0 else min (length piece) (sink.room - length sink.written)

-- the sink after that call
abbrev pub sink_after : MemSinkView → List ℕ → MemSinkView
sink_after sink piece = record {
  written = sink.written ++ take (taken_count sink piece) piece;
  room = sink.room;
  calls = calls_after sink.calls (is_next_refused sink);
}
