-- What does reading a trace answer, where the source tells the bytes that it has left? It answers what the definition of
-- traces reads from them. Only a failed read of the source and want of memory may come in its place.
use Rattle.std.specs.Prelude.{◌≡◌, ℕ, ◌+◌, List, [], Option, Some, Result, Ok, Err}
use Rattle.ssd_formats.specs.Fields.{◌>>=◌}
use Rattle.ssd_geo.specs.Limits.{Sizes}
use Rattle.ssd_formats.specs.InputFaults.{TraceFault, first}
use Rattle.ssd_formats.specs.Lines.{Line}
use Rattle.ssd_formats.specs.TraceText.{at_line, first_of_line, read_trace}
use Rattle.ssd_geo.specs.declared.trace.Trace.{Trace}
use Rattle.ssd_geo.specs.declared.trace.TraceCall.{TraceCall}
use Rattle.ssd_io.specs.Told.{IsTold, told_bytes}
use Rattle.image_file.specs.declared.stop.ReadStop.{ReadStop}
use Rattle.image_file.specs.declared.stop.ReadStop.TheVariants.{Fault as FaultAt, Memory as MemoryAt}
use Rattle.trace_text.specs.BytesAhead.{IsOver, lines_ahead}
use Rattle.trace_text.specs.DueLines.{NextLine, due, ended, due_line, StopsReading}
use Rattle.trace_text.specs.ReadLines.{pending}
use Rattle.trace_text.specs.declared.fault.LineStop.{LineStop}
use Rattle.trace_text.specs.declared.fault.LineStop.TheVariants.{Fault, Memory}
use Rattle.trace_text.specs.declared.fault.TraceFault.{TraceFault as TraceFaultAnswer}
use Rattle.trace_text.specs.declared.line_reader.LineReader.{LineReader}

-- the trace was read to the end of the source, or it isn't one and this is its first fault
abbrev pub GivesTrace : Result Trace (ReadStop TraceFaultAnswer) → Option (List ℕ) → Result Trace (ℕ × TraceFault) → Type 0
GivesTrace (Ok trace) left reading = (left ≡ Some []) × (reading ≡ Ok trace)
GivesTrace (Err stop) left reading = StopsReading stop reading

-- a trace is read from what the source has left, where it tells that
abbrev pub ReadsTrace : Result Trace (ReadStop TraceFaultAnswer) → Sizes → Option (List ℕ) → Option (List ℕ) → Type 0
ReadsTrace result sizes before after = IsTold before → GivesTrace result after (read_trace sizes (told_bytes before))

-- the number of actors, and where the lines of calls begin: the number of the first of them, the bytes before it, and they
abbrev pub Begun : Type 0
Begun = ℕ × ℕ × ℕ × List Line

abbrev pub begun_at : NextLine → Result Begun (ℕ × TraceFault)
begun_at (due line number taken lines) = at_line number (first_of_line line) >>= (λ actors. Ok (actors, number + 1, taken, lines))
begun_at (ended number) = Err (number, first)

abbrev pub begun_of : ℕ → ℕ → List Line → Result Begun (ℕ × TraceFault)
begun_of number taken lines = due_line number taken lines >>= begun_at

-- where a reader stands that has read the first line
abbrev pub begun_reader : ℕ → LineReader → Option (List ℕ) → Begun
begun_reader actors reader left = (actors, reader.number + 1, reader.taken, lines_ahead (pending reader) left)

abbrev pub GivesActors : Result ℕ (ReadStop TraceFaultAnswer) → LineReader → Option (List ℕ) → Result Begun (ℕ × TraceFault) → Type 0
GivesActors (Ok actors) reader left reading = IsTold left × (reading ≡ Ok (begun_reader actors reader left))
GivesActors (Err stop) reader left reading = StopsReading stop reading

abbrev pub GivesCalls : Result (List TraceCall) (ReadStop TraceFaultAnswer) → Option (List ℕ) → Result (List TraceCall) (ℕ × TraceFault) → Type 0
GivesCalls (Ok calls) left reading = IsTold left × IsOver left × (reading ≡ Ok calls)
GivesCalls (Err stop) left reading = StopsReading stop reading

-- a stop in a line
abbrev pub stop_in_line : ℕ → LineStop → ReadStop TraceFaultAnswer
stop_in_line line (Fault fault) = FaultAt line fault
stop_in_line line Memory = MemoryAt
