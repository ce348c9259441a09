-- The lines that are due, taken one after the other.
use Rattle.std.proofs.Common.{◌≡◌, refl, ℕ, ◌+◌, Bool, true, false, cond, not, List, [], ◌∷◌, Result, Ok, Err}
use Rattle.ssd_formats.specs.Fields.{◌>>=◌}
use Rattle.ssd_geo.specs.Limits.{Sizes}
use Rattle.ssd_formats.specs.InputFaults.{TraceFault, long}
use Rattle.ssd_formats.specs.Lines.{Line, is_skipped}
use Rattle.ssd_formats.specs.TraceText.{at_line, calls_of_lines, calls_with, first_of_line, is_short_line, trace_of_lines}
use Rattle.ssd_geo.specs.declared.trace.Trace.{Trace}
use Rattle.ssd_geo.specs.declared.trace.TraceCall.{TraceCall}
use Rattle.trace_text.specs.DueLines.{NextLine, due, ended, due_line, short_line}
use Rattle.trace_text.specs.ReadTraces.{Begun, begun_at, begun_of}

-- what follows a line that was taken
abbrev pub skipping : NextLine → Result NextLine (ℕ × TraceFault)
skipping (due line number taken lines) = cond (is_skipped line.text) (due_line (number + 1) taken lines) (Ok (due line number taken lines))
skipping (ended number) = Ok (ended number)

step_by : (b : Bool) (fault : ℕ × TraceFault) (line : Line) (number taken : ℕ) (lines : List Line) →
    cond b (Err fault) (cond (is_skipped line.text) (due_line (number + 1) taken lines) (Ok (due line number taken lines)))
    ≡ (cond b (Err fault) (Ok (due line number taken lines)) >>= skipping)
step_by true fault line number taken lines = refl
step_by false fault line number taken lines = refl

pub due_follows : (number taken : ℕ) (lines : List Line) → due_line number taken lines ≡ short_line number taken lines >>= skipping
due_follows number taken [] = refl
due_follows number taken (line ∷ lines) = step_by (not (is_short_line taken line)) (number, long) line number (taken + line.taken) lines

-- the calls after those before, from the next line that is due on
abbrev pub calls_from : Sizes → ℕ → List TraceCall → NextLine → Result (List TraceCall) (ℕ × TraceFault)
calls_from sizes actors before (due line number taken lines) =
    at_line number (calls_with sizes actors before line) >>= (λ calls. calls_of_lines sizes actors (number + 1) taken calls lines)
calls_from sizes actors before (ended number) = Ok before

calls_by : (b c : Bool) (fault : ℕ × TraceFault) (sizes : Sizes) (actors : ℕ) (before : List TraceCall) (line : Line) (number taken : ℕ) (lines : List Line)
    → calls_of_lines sizes actors (number + 1) taken before lines ≡ (due_line (number + 1) taken lines >>= calls_from sizes actors before)
    → cond b (Err fault) (cond c (calls_of_lines sizes actors (number + 1) taken before lines) (at_line number (calls_with sizes actors before line) >>= (λ calls. calls_of_lines sizes actors (number + 1) taken calls lines)))
    ≡ (cond b (Err fault) (cond c (due_line (number + 1) taken lines) (Ok (due line number taken lines))) >>= calls_from sizes actors before)
calls_by true c fault sizes actors before line number taken lines e = refl
calls_by false true fault sizes actors before line number taken lines e = e
calls_by false false fault sizes actors before line number taken lines e = refl

pub calls_follow : (sizes : Sizes) (actors number taken : ℕ) (before : List TraceCall) (lines : List Line) → calls_of_lines sizes actors number taken before lines ≡ due_line number taken lines >>= calls_from sizes actors before
unfolding calls_of_lines
calls_follow sizes actors number taken before [] = refl
calls_follow sizes actors number taken before (line ∷ lines) =
    calls_by (not (is_short_line taken line)) (is_skipped line.text) (number, long) sizes actors before line number (taken + line.taken) lines
    (calls_follow sizes actors (number + 1) (taken + line.taken) before lines)

-- the trace whose first line was read
abbrev pub trace_from : Sizes → Begun → Result Trace (ℕ × TraceFault)
trace_from sizes begun = calls_of_lines sizes begun.0 begun.1 begun.2 [] begun.3 >>= (λ calls. Ok (record { actors = begun.0; calls = calls }))

first_by : (sizes : Sizes) (number taken : ℕ) (lines : List Line) (read : Result ℕ (ℕ × TraceFault)) →
    (read >>= (λ actors. calls_of_lines sizes actors (number + 1) taken [] lines >>= (λ calls. Ok (record { actors = actors; calls = calls }))))
    ≡ ((read >>= (λ actors. Ok (actors, number + 1, taken, lines))) >>= trace_from sizes)
first_by sizes number taken lines (Ok actors) = refl
first_by sizes number taken lines (Err fault) = refl

trace_by : (b c : Bool) (fault : ℕ × TraceFault) (sizes : Sizes) (line : Line) (number taken : ℕ) (lines : List Line)
    → trace_of_lines sizes (number + 1) taken lines ≡ ((due_line (number + 1) taken lines >>= begun_at) >>= trace_from sizes)
    → cond b (Err fault) (cond c (trace_of_lines sizes (number + 1) taken lines)
    (at_line number (first_of_line line) >>= (λ actors. calls_of_lines sizes actors (number + 1) taken [] lines >>= (λ calls. Ok (record { actors = actors; calls = calls })))))
    ≡ ((cond b (Err fault) (cond c (due_line (number + 1) taken lines) (Ok (due line number taken lines))) >>= begun_at) >>= trace_from sizes)
trace_by true c fault sizes line number taken lines e = refl
trace_by false true fault sizes line number taken lines e = e
trace_by false false fault sizes line number taken lines e = first_by sizes number taken lines (at_line number (first_of_line line))

pub trace_follows : (sizes : Sizes) (number taken : ℕ) (lines : List Line) → trace_of_lines sizes number taken lines ≡ begun_of number taken lines >>= trace_from sizes
unfolding trace_of_lines
trace_follows sizes number taken [] = refl
trace_follows sizes number taken (line ∷ lines) =
    trace_by (not (is_short_line taken line)) (is_skipped line.text) (number, long) sizes line number (taken + line.taken) lines
    (trace_follows sizes (number + 1) (taken + line.taken) lines)
