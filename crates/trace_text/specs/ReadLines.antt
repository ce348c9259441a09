-- What does taking a line do? It takes the first of the lines ahead, or finds that there is none, or that it is too long.
use Rattle.std.specs.Prelude.{◌≡◌, ℕ, ◌+◌, ◌<◌, ◌≤◌, List, [], ◌∷◌, length, take, drop, Option}
use Rattle.ssd_formats.specs.Lines.{Line}
use Rattle.ssd_formats.specs.TraceText.{most_line_bytes}
use Rattle.ssd_io.specs.Told.{IsTold}
use Rattle.trace_text.specs.BytesAhead.{IsOver, lines_ahead}
use Rattle.trace_text.specs.Windows.{held}
use Rattle.trace_text.specs.declared.line_reader.Ahead.{Ahead}
use Rattle.trace_text.specs.declared.line_reader.Ahead.TheVariants.{End, Line as LineAhead, Long}
use Rattle.trace_text.specs.declared.line_reader.LineReader.{LineReader}

-- the text of the line that was taken
abbrev pub text_of : LineReader → List ℕ
text_of reader = take reader.text (held reader.window)

-- that line
abbrev pub line_of : LineReader → Line
line_of reader = record { text = text_of reader; taken = reader.line }

-- the bytes held behind it
abbrev pub pending : LineReader → List ℕ
pending reader = drop reader.line (held reader.window)

-- nothing was read
pub record IsAtStart (reader : LineReader) : Type 0 where
  pub pending : pending reader ≡ []
  pub number : reader.number ≡ 0
  pub taken : reader.taken ≡ 0

-- the line of so many bytes at the front of the window was taken, of which these are its text
pub record Takes (before after : LineReader) (text line : ℕ) : Type 0 where
  pub text_is : text_of after ≡ take text (held before.window)
  pub pending_is : pending after ≡ drop line (held before.window)
  pub line_is : after.line ≡ line
  pub number : after.number ≡ before.number + 1
  pub taken : after.taken ≡ before.taken + line

-- the line that was taken is left, so that what is pending stands at the front
pub record Leaves (before after : LineReader) : Type 0 where
  pub bytes : held after.window ≡ pending before
  pub line : after.line ≡ 0
  pub number : after.number ≡ before.number
  pub taken : after.taken ≡ before.taken

-- the first line is too long
abbrev pub BeginsLong : List Line → Type 0
BeginsLong [] = ⊥
BeginsLong (line ∷ lines) = most_line_bytes < length line.text

-- where a line was found, it is counted, and so are its bytes, of which there are some
pub record IsCounted (before after : LineReader) : Type 0 where
  pub number : after.number ≡ before.number + 1
  pub taken : after.taken ≡ before.taken + after.line
  pub some : 0 < after.line

-- what was found of these lines
abbrev pub IsAhead : Ahead → LineReader → Option (List ℕ) → List Line → Type 0
IsAhead LineAhead after left lines = lines ≡ line_of after ∷ lines_ahead (pending after) left
IsAhead End after left lines = (lines ≡ []) × IsOver left
IsAhead Long after left lines = BeginsLong lines

abbrev pub Counts : Ahead → LineReader → LineReader → Type 0
Counts LineAhead before after = IsCounted before after
Counts End before after = after.number ≡ before.number
Counts Long before after = after.number ≡ before.number

-- what was found of the lines ahead, where the source tells them
pub record ReadsLine (ahead : Ahead) (before after : LineReader) (left_before left_after : Option (List ℕ)) : Type 0 where
  pub told : IsTold left_before → IsTold left_after × IsAhead ahead after left_after (lines_ahead (pending before) left_before)
  pub counts : Counts ahead before after
