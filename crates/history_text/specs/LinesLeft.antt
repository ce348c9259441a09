-- Which lines are left of a text, so many having been taken before it? And what does a call answer that reads
-- some of them? It answers what their definition reads; only want of memory may come in its place.
use Rattle.std.specs.Borrow.{Bor}
use Rattle.std.specs.declared.alloc.Global.{Global}
use Rattle.std.specs.declared.vec.Vec.{Vec}
use Rattle.std.specs.Prelude.{◌≡◌, ℕ, ◌+◌, nat_le, List, [], ◌∷◌, Option, Some, None}
use Rattle.std.specs.Prelude.{option_and_then, Result, Ok, Err}
use Rattle.ssd_formats.specs.Fields.{◌>>=◌, passing}
use Rattle.ssd_formats.specs.HistoryText.{Printed, count_of_words, entries_of_lines, most_entries}
use Rattle.ssd_formats.specs.HistoryText.{next_line, printed_lines}
use Rattle.ssd_formats.specs.Numbers.{Text, number_of_text}
use Rattle.ssd_geo.specs.declared.entry.Entry.{Entry}
use Rattle.history_text.specs.Pieces.{pieces_of}
use Rattle.history_text.specs.declared.fault.HistoryFault.{HistoryFault}
use Rattle.history_text.specs.declared.fault.HistoryFault.TheVariants.{Line, Memory}

abbrev pub lines_of : Text → List (Option Text)
lines_of left = printed_lines (pieces_of 10 left)

-- the lines that are left, so many having been taken
abbrev pub lines_left : ℕ → Text → Printed
lines_left taken left = record { number = taken + 1; lines = lines_of left }

-- the first line, where there is one that ends with LF
abbrev pub first_line : List (Option Text) → Option Text
first_line [] = None
first_line (line ∷ lines) = line

-- a line was taken, and the others are left; or there was none to take
abbrev pub TakesLine : Result (Bor Text) HistoryFault → Printed → Printed → Type 0
TakesLine (Ok line) rest after = (rest.lines ≡ Some line.now ∷ after.lines) × (after.number ≡ rest.number + 1)
TakesLine (Err fault) rest after = (first_line rest.lines ≡ None) × (fault ≡ Line rest.number)

-- a fault is what is read here, or want of memory
abbrev pub StopsAt : {A : Type 0} → HistoryFault → Result A ℕ → Type 0
StopsAt (Line line) reading = reading ≡ Err line
StopsAt Memory reading = Unit {0}

-- an answer is what is read, with the lines that are left then, or want of memory
abbrev pub Reads : {A : Type 0} → Result A HistoryFault → Result (A × Printed) ℕ → Printed → Type 0
Reads (Ok value) reading after = reading ≡ Ok (value, after)
Reads (Err fault) reading after = StopsAt fault reading

-- the number of entries that a word spells, if a channel may have so many
abbrev pub count_of : Text → Option ℕ
count_of word = option_and_then (passing (λ n. nat_le n most_entries)) (number_of_text word)

-- the history of one channel
abbrev pub channel_of_lines : ℕ → Printed → Result (List Entry × Printed) ℕ
channel_of_lines channel rest = do
  entries ← next_line (count_of_words channel) rest
  entries_of_lines entries.0 [] entries.1

-- the list of what was read
abbrev pub items_of : {A F : Type 0} → Result (Vec A Global) F → Result (List A) F
items_of (Ok read) = Ok read.items
items_of (Err fault) = Err fault
