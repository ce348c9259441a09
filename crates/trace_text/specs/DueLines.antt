-- Which line is due next? The first one that isn't skipped, where none before it is too long, itself included.
use Rattle.std.specs.Prelude.{◌≡◌, ℕ, ◌+◌, ◌^◌, ◌<◌, ◌≤◌, Bool, true, false, not, if◌then◌else◌, List, [], ◌∷◌, Option, Some, None, Result, Ok, Err}
use Rattle.ssd_formats.specs.InputFaults.{TraceFault, long}
use Rattle.ssd_formats.specs.Lines.{Line, is_skipped}
use Rattle.ssd_formats.specs.TraceText.{is_short_line}
use Rattle.ssd_io.specs.Told.{IsTold}
use Rattle.image_file.specs.declared.stop.ReadStop.{ReadStop}
use Rattle.image_file.specs.declared.stop.ReadStop.TheVariants.{Fault, ReadFault, DieFailed, Memory}
use Rattle.trace_text.specs.Answers.{named_fault}
use Rattle.trace_text.specs.BytesAhead.{IsOver, lines_ahead}
use Rattle.trace_text.specs.ReadLines.{IsCounted, line_of, pending}
use Rattle.trace_text.specs.declared.fault.TraceFault.{TraceFault as TraceFaultAnswer}
use Rattle.trace_text.specs.declared.fault.TraceFault.TheVariants.{Long}
use Rattle.trace_text.specs.declared.line_reader.LineReader.{LineReader}

-- a line that is due, its number, the bytes of the lines up to its end, and the lines behind it; or the number that one
-- more line would have
pub data NextLine : Type 0 where
  due : Line → ℕ → ℕ → List Line → NextLine
  ended : ℕ → NextLine

-- the next line, be it skipped or not, if it isn't too long
abbrev pub short_line : ℕ → ℕ → List Line → Result NextLine (ℕ × TraceFault)
short_line number taken [] = Ok (ended number)
short_line number taken (line ∷ lines) =
    if not (is_short_line taken line) then Err (number, long) else Ok (due line number (taken + line.taken) lines)

-- the next line that isn't skipped, of the lines from the one with this number on, after so many bytes
abbrev pub due_line : ℕ → ℕ → List Line → Result NextLine (ℕ × TraceFault)
due_line number taken [] = Ok (ended number)
due_line number taken (line ∷ lines) =
    if not (is_short_line taken line) then Err (number, long)
    else if is_skipped line.text then due_line (number + 1) (taken + line.taken) lines
    else Ok (due line number (taken + line.taken) lines)

-- where a reader stands: at a line that was taken, or behind the last one
abbrev pub line_taken : LineReader → Option (List ℕ) → NextLine
line_taken reader left = due (line_of reader) reader.number reader.taken (lines_ahead (pending reader) left)

abbrev pub line_ended : LineReader → NextLine
line_ended reader = ended (reader.number + 1)

-- a line or the trace in it is too long
abbrev pub long_in_line : ℕ → ReadStop TraceFaultAnswer
long_in_line line = Fault line Long

-- a stop is the fault that is read, or none that lines can have
abbrev pub StopsReading : {A : Type 0} → ReadStop TraceFaultAnswer → Result A (ℕ × TraceFault) → Type 0
StopsReading (Fault at fault) reading = reading ≡ Err (at, named_fault fault)
StopsReading ReadFault reading = Unit {0}
StopsReading (DieFailed die) reading = ⊥
StopsReading Memory reading = Unit {0}

-- an answer is the line that is read
abbrev pub GivesLine : Result Bool (ReadStop TraceFaultAnswer) → LineReader → Option (List ℕ) → Result NextLine (ℕ × TraceFault) → Type 0
GivesLine (Ok true) reader left reading = IsTold left × (reading ≡ Ok (line_taken reader left))
GivesLine (Ok false) reader left reading = IsTold left × IsOver left × (reading ≡ Ok (line_ended reader))
GivesLine (Err stop) reader left reading = StopsReading stop reading

-- a line that was taken ends within the bytes that a trace may have, behind where the reader was
abbrev pub GoesOn : Result Bool (ReadStop TraceFaultAnswer) → LineReader → LineReader → Type 0
GoesOn (Ok true) before after = (before.taken < after.taken) × (after.taken ≤ 2 ^ 26)
GoesOn (Ok false) before after = Unit {0}
GoesOn (Err stop) before after = Unit {0}

-- the next line, where the source tells its bytes
pub record ReadsShort (result : Result Bool (ReadStop TraceFaultAnswer)) (before after : LineReader) (left_before left_after : Option (List ℕ)) : Type 0 where
  pub told : IsTold left_before → GivesLine result after left_after (short_line (before.number + 1) before.taken (lines_ahead (pending before) left_before))
  pub on : GoesOn result before after

-- the next line that is due, where the source tells its bytes
pub record FindsDue (result : Result Bool (ReadStop TraceFaultAnswer)) (before after : LineReader) (left_before left_after : Option (List ℕ)) : Type 0 where
  pub told : IsTold left_before → GivesLine result after left_after (due_line (before.number + 1) before.taken (lines_ahead (pending before) left_before))
  pub on : GoesOn result before after
