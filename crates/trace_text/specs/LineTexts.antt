-- What does the text of a line that isn't skipped give? A line is its text and what it takes, and only the text counts here.
use Rattle.std.specs.Prelude.{◌≡◌, ℕ, List, length, Result, Ok, Err}
use Rattle.ssd_formats.specs.Fields.{◌>>=◌}
use Rattle.ssd_geo.specs.Limits.{Sizes}
use Rattle.ssd_formats.specs.InputFaults.{TraceFault}
use Rattle.ssd_formats.specs.Lines.{Line}
use Rattle.ssd_formats.specs.Numbers.{Text}
use Rattle.ssd_formats.specs.TraceText.{call_of_words, calls_with, line_words}
use Rattle.ssd_geo.specs.declared.trace.TraceCall.{TraceCall}
use Rattle.ssd_geo.specs.declared.trace.Verb.{Verb}
use Rattle.trace_text.specs.Answers.{StopsAt}
use Rattle.trace_text.specs.declared.fault.LineStop.{LineStop}

-- a line of this text
abbrev pub line_of_text : Text → Line
line_of_text text = record { text = text; taken = length text }

-- the actor and the verb of a call
abbrev pub actor_and_verb_of : Sizes → ℕ → Text → Result (ℕ × Verb) TraceFault
actor_and_verb_of sizes actors text = line_words (line_of_text text) >>= call_of_words sizes actors

-- the call of a line was added to those before, or it is what is read here that stopped it
abbrev pub AddsCall : Result (Unit {0}) LineStop → Sizes → ℕ → List TraceCall → List TraceCall → Text → Type 0
AddsCall (Ok done) sizes actors before after text = calls_with sizes actors before (line_of_text text) ≡ Ok after
AddsCall (Err stop) sizes actors before after text = StopsAt stop (calls_with sizes actors before (line_of_text text))
