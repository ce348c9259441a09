-- What the definition of traces reads, step by step as the lines are taken.
use Rattle.std.proofs.Common.{◌≡◌, ap, ◌∙◌, ℕ, ◌+◌, List, [], Option, Some, None, Result, Ok}
use Rattle.ssd_formats.specs.Fields.{◌>>=◌}
use Rattle.ssd_geo.specs.Limits.{Sizes}
use Rattle.ssd_formats.specs.InputFaults.{TraceFault}
use Rattle.ssd_formats.specs.Lines.{Line, lines_in}
use Rattle.ssd_formats.specs.TraceText.{at_line, calls_of_lines, calls_with, read_trace}
use Rattle.ssd_geo.specs.declared.trace.Trace.{Trace}
use Rattle.ssd_geo.specs.declared.trace.TraceCall.{TraceCall}
use Rattle.image_file.specs.declared.stop.ReadStop.{ReadStop}
use Rattle.image_file.specs.declared.stop.ReadStop.TheVariants.{Fault as FaultAt, ReadFault, DieFailed, Memory as MemoryAt}
use Rattle.trace_text.specs.Answers.{StopsAt}
use Rattle.ssd_io.specs.Told.{IsTold, told_bytes}
use Rattle.trace_text.specs.BytesAhead.{IsOver, lines_ahead}
use Rattle.trace_text.specs.DueLines.{due, ended, due_line, StopsReading}
use Rattle.trace_text.specs.ReadTraces.{Begun, begun_of, stop_in_line}
use Rattle.trace_text.specs.declared.fault.LineStop.{LineStop}
use Rattle.trace_text.specs.declared.fault.LineStop.TheVariants.{Fault, Memory}
use Rattle.trace_text.specs.declared.fault.TraceFault.{TraceFault as TraceFaultAnswer}
use Rattle.trace_text.proofs.DueSteps.{calls_follow, calls_from, trace_follows, trace_from}

-- what stops a first step stops all
pub stops_all : {A B : Type 0} (stop : ReadStop TraceFaultAnswer) (reading : Result A (ℕ × TraceFault)) (next : A → Result B (ℕ × TraceFault)) (whole : Result B (ℕ × TraceFault)) → whole ≡ reading >>= next → StopsReading stop reading → StopsReading stop whole
stops_all (FaultAt at fault) reading next whole e stops = e ∙ ap (λ r. r >>= next) stops
stops_all ReadFault reading next whole e stops = tt
stops_all (DieFailed die) reading next whole e stops = stops
stops_all MemoryAt reading next whole e stops = tt

-- the same of what stands for a reading
pub stops_same : {A : Type 0} (stop : ReadStop TraceFaultAnswer) (reading whole : Result A (ℕ × TraceFault)) → whole ≡ reading → StopsReading stop reading → StopsReading stop whole
stops_same (FaultAt at fault) reading whole e stops = e ∙ stops
stops_same ReadFault reading whole e stops = tt
stops_same (DieFailed die) reading whole e stops = stops
stops_same MemoryAt reading whole e stops = tt

-- no line that is due
pub calls_stop : (stop : ReadStop TraceFaultAnswer) (sizes : Sizes) (actors number taken : ℕ) (before : List TraceCall) (lines : List Line) (whole : Result (List TraceCall) (ℕ × TraceFault))
    → whole ≡ calls_of_lines sizes actors number taken before lines → StopsReading stop (due_line number taken lines) → StopsReading stop whole
calls_stop stop sizes actors number taken before lines whole e stops =
    stops_all stop (due_line number taken lines) (calls_from sizes actors before) whole (e ∙ calls_follow sizes actors number taken before lines) stops

pub calls_end : (sizes : Sizes) (actors number taken last : ℕ) (before : List TraceCall) (lines : List Line) (whole : Result (List TraceCall) (ℕ × TraceFault))
    → whole ≡ calls_of_lines sizes actors number taken before lines → due_line number taken lines ≡ Ok (ended last) → whole ≡ Ok before
calls_end sizes actors number taken last before lines whole e over =
    e ∙ (calls_follow sizes actors number taken before lines ∙ ap (λ r. r >>= calls_from sizes actors before) over)

at_due : (sizes : Sizes) (actors number taken now reached : ℕ) (before : List TraceCall) (line : Line) (lines further : List Line) (whole : Result (List TraceCall) (ℕ × TraceFault))
    → whole ≡ calls_of_lines sizes actors number taken before lines → due_line number taken lines ≡ Ok (due line now reached further)
    → whole ≡ at_line now (calls_with sizes actors before line) >>= (λ calls. calls_of_lines sizes actors (now + 1) reached calls further)
at_due sizes actors number taken now reached before line lines further whole e next =
    e ∙ (calls_follow sizes actors number taken before lines ∙ ap (λ r. r >>= calls_from sizes actors before) next)

-- one more call
pub calls_go_on : (sizes : Sizes) (actors number taken now reached : ℕ) (before after : List TraceCall) (line : Line) (lines further : List Line) (whole : Result (List TraceCall) (ℕ × TraceFault))
    → whole ≡ calls_of_lines sizes actors number taken before lines → due_line number taken lines ≡ Ok (due line now reached further)
    → calls_with sizes actors before line ≡ Ok after → whole ≡ calls_of_lines sizes actors (now + 1) reached after further
calls_go_on sizes actors number taken now reached before after line lines further whole e next one =
    at_due sizes actors number taken now reached before line lines further whole e next
    ∙ ap (λ r. at_line now r >>= (λ calls. calls_of_lines sizes actors (now + 1) reached calls further)) one

-- a line that is no call
pub calls_stop_at : (stop : LineStop) (sizes : Sizes) (actors number taken now reached : ℕ) (before : List TraceCall) (line : Line) (lines further : List Line) (whole : Result (List TraceCall) (ℕ × TraceFault))
    → whole ≡ calls_of_lines sizes actors number taken before lines → due_line number taken lines ≡ Ok (due line now reached further)
    → StopsAt stop (calls_with sizes actors before line) → StopsReading (stop_in_line now stop) whole
calls_stop_at (Fault fault) sizes actors number taken now reached before line lines further whole e next stops =
    at_due sizes actors number taken now reached before line lines further whole e next
    ∙ ap (λ r. at_line now r >>= (λ calls. calls_of_lines sizes actors (now + 1) reached calls further)) stops
calls_stop_at Memory sizes actors number taken now reached before line lines further whole e next stops = tt

-- a trace from its first line on
pub trace_begins : (sizes : Sizes) (pending : List ℕ) (number taken : ℕ) (left : Option (List ℕ)) → pending ≡ [] → number ≡ 0 → taken ≡ 0 → read_trace sizes (told_bytes left) ≡ begun_of (number + 1) taken (lines_ahead pending left) >>= trace_from sizes
trace_begins sizes pending number taken left p n t = rw (p, n, t) (trace_follows sizes 1 0 (lines_in (told_bytes left)))

-- the calls behind the first line
pub trace_goes_on : (sizes : Sizes) (begun : Begun) (reading : Result Begun (ℕ × TraceFault)) (whole : Result Trace (ℕ × TraceFault)) → whole ≡ reading >>= trace_from sizes → reading ≡ Ok begun → whole ≡ trace_from sizes begun
trace_goes_on sizes begun reading whole e is = e ∙ ap (λ r. r >>= trace_from sizes) is

pub calls_are_all : (sizes : Sizes) (begun : Begun) (calls : List TraceCall) (whole : Result Trace (ℕ × TraceFault)) → whole ≡ trace_from sizes begun → calls_of_lines sizes begun.0 begun.1 begun.2 [] begun.3 ≡ Ok calls
    → whole ≡ Ok (record { actors = begun.0; calls = calls })
calls_are_all sizes begun calls whole e all = e ∙ ap (λ r. r >>= (λ found. Ok (record { actors = begun.0; calls = found }))) all

pub nothing_left : (left : Option (List ℕ)) → IsTold left → IsOver left → left ≡ Some []
nothing_left None told over = absurd told
nothing_left (Some bytes) told over = ap Some over
