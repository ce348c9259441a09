-- What does a call add to those before it? It is numbered after them, or there are too many then.
use Rattle.std.specs.Prelude.{◌≡◌, ℕ, ◌+◌, ◌*◌, if◌then◌else◌, nat_le, Bool, true, false, ◌&&◌, List, [], ◌∷◌, ◌++◌, length, count_by, Result, Ok, Err}
use Rattle.ssd_formats.specs.InputFaults.{long}
use Rattle.ssd_formats.specs.TraceText.{is_read_call, is_read_verb, most_bytes_read, most_calls, numbered_after}
use Rattle.ssd_geo.specs.declared.trace.TraceCall.{TraceCall}
use Rattle.ssd_geo.specs.declared.trace.Verb.{Verb}
use Rattle.trace_text.specs.Answers.{named_fault}
use Rattle.trace_text.specs.declared.fault.LineStop.{LineStop}
use Rattle.trace_text.specs.declared.fault.LineStop.TheVariants.{Fault, Memory}

-- whether so many calls are within the limits, where a page has so many data bytes
abbrev pub are_few : ℕ → List TraceCall → Bool
are_few bytes calls = nat_le (length calls) most_calls && nat_le (count_by is_read_call calls * bytes) most_bytes_read

-- the same test of one more call, which may be a read
abbrev pub has_room_for : ℕ → List TraceCall → Verb → Bool
has_room_for bytes calls verb =
    nat_le (length calls + 1) most_calls && nat_le ((count_by is_read_call calls + (if is_read_verb verb then 1 else 0)) * bytes) most_bytes_read

-- the calls with one more
abbrev pub with_call : List TraceCall → ℕ → Verb → List TraceCall
with_call before actor verb = before ++ numbered_after before (actor, verb) ∷ []

-- The call was added, and there are few enough; or there would be too many. Want of memory may come in place of the first.
abbrev pub Adds : Result (Unit {0}) LineStop → ℕ → List TraceCall → List TraceCall → ℕ → Verb → Type 0
Adds (Ok done) bytes before after actor verb = (are_few bytes after ≡ true) × (after ≡ with_call before actor verb)
Adds (Err (Fault fault)) bytes before after actor verb = (named_fault fault ≡ long) × (are_few bytes (with_call before actor verb) ≡ false)
Adds (Err Memory) bytes before after actor verb = Unit {0}
