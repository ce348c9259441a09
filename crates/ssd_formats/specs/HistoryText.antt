-- Which histories does a text spell, and which line is the first that spells none? The text has the histories of all
-- channels and nothing else. Each of its lines ends with LF; where it ends too early, the fault is at one more than the
-- last line.
use Rattle.std.specs.Prelude.{ℕ, zero, suc, ◌+◌, ◌==◌, nat_le, bytes_eq, Bool, ◌&&◌, if◌then◌else◌, List, [], ◌∷◌, ◌++◌, length, codes, decimal, Option, Some, None, option_map, option_and_then, Result, Ok, Err, ◌≡◌, ◌^◌, IsTrue, true, not}
use Rattle.std.specs.List.{list_all, slice_split}
use Rattle.ssd_formats.specs.EntryText.{histories_text}
use Rattle.ssd_formats.specs.Fields.{◌>>=◌, is_below, passing}
use Rattle.ssd_formats.specs.ImageHead.{is_short}
use Rattle.ssd_formats.specs.RunText.{run_text}
use Rattle.ssd_formats.specs.KindOfWords.{kind_of_words, read_tag}
use Rattle.ssd_formats.specs.Lines.{is_line_feed, words_in}
use Rattle.ssd_formats.specs.Numbers.{Text, number_of_text}
use Rattle.ssd_geo.specs.declared.entry.Entry.{Entry}
use Rattle.ssd_geo.specs.declared.kind.Kind.{Kind}
use Rattle.ssd_geo.specs.declared.kind.Kind.TheVariants.{Look, Sense, Leave, Write, Trim, Move, Changed, Condemn, Stay, Pick, Erase, BadWrite, BadCopy, BadErase, Age, Refused, FaultSense, FaultAge, Note}
use Rattle.ssd_geo.specs.declared.place.Place.{Place}
use Rattle.ssd_geo.specs.declared.reply.CallKind.{CallKind}
use Rattle.ssd_geo.specs.declared.reply.Reply.{Reply}
use Rattle.ssd_geo.specs.declared.row.Row.{Row}
use Rattle.ssd_geo.specs.declared.row.Row.TheVariants.{Empty, Lost, Page}
use Rattle.ssd_geo.specs.declared.slot.Slot.{Slot}
use Rattle.ssd_geo.specs.declared.tag.Tag.{Tag}

-- the lines that are left to read, each with the LF at its end taken off, or nothing for a last one that has none; and
-- the number of the first of them
pub record Printed : Type 0 where
  pub number : ℕ
  pub lines : List (Option Text)

-- the lines in the parts between all LF: an empty last part is no line
abbrev pub printed_lines : List Text → List (Option Text)
printed_lines [] = []
printed_lines (part ∷ []) = if length part == 0 then [] else None ∷ []
printed_lines (part ∷ next ∷ parts) = Some part ∷ printed_lines (next ∷ parts)

-- the lines of a text
abbrev pub printed : Text → Printed
printed text = record { number = 1; lines = printed_lines (slice_split is_line_feed text) }

-- a value and the lines after it, or else the number of the line at hand
abbrev pub value_or : {A : Type 0} → ℕ → List (Option Text) → Option A → Result (A × Printed) ℕ
value_or number lines (Some value) = Ok (value, record { number = number + 1; lines = lines })
value_or number lines None = Err number

-- what the next line spells, or the number of that line
abbrev pub line_at : {A : Type 0} → (List Text → Option A) → ℕ → List (Option Text) → Result (A × Printed) ℕ
line_at value number [] = Err number
line_at value number (line ∷ lines) = value_or number lines (option_and_then (λ text. value (words_in text)) line)

abbrev pub next_line : {A : Type 0} → (List Text → Option A) → Printed → Result (A × Printed) ℕ
next_line value rest = line_at value rest.number rest.lines

-- the most entries of a channel's history
abbrev pub most_entries : ℕ
most_entries = 4194304

-- whether a word spells this number
abbrev pub spells : ℕ → Text → Bool
spells n word = bytes_eq word (decimal n)

-- the number of entries that the line of a channel tells
abbrev pub count_of_words : ℕ → List Text → Option ℕ
count_of_words channel (word ∷ number ∷ entries ∷ []) =
    if bytes_eq word (codes "channel") && spells channel number
    then option_and_then (passing (λ n. nat_le n most_entries)) (number_of_text entries) else None
count_of_words channel words = None

-- an entry, of a tag and what the step did
abbrev pub entry_with : Kind → Tag → Entry
entry_with kind tag = record { tag = tag; kind = kind }

-- the entry at a position, by the words of its line
abbrev pub entry_of_words : ℕ → List Text → Option Entry
entry_of_words position (number ∷ tag ∷ words) =
    if spells position number
    then option_and_then (λ kind. option_map (entry_with kind) (read_tag tag)) (kind_of_words words) else None
entry_of_words position words = None

-- so many more entries, after those before
unfoldable pub entries_of_lines : ℕ → List Entry → Printed → Result (List Entry × Printed) ℕ
entries_of_lines zero before rest = Ok (before, rest)
entries_of_lines (suc n) before rest = do
  entry ← next_line (entry_of_words (length before)) rest
  entries_of_lines n (before ++ entry.0 ∷ []) entry.1

-- the histories of so many more channels, after those before
unfoldable pub histories_of_lines : ℕ → List (List Entry) → Printed → Result (List (List Entry) × Printed) ℕ
histories_of_lines zero before rest = Ok (before, rest)
histories_of_lines (suc n) before rest = do
  entries ← next_line (count_of_words (length before)) rest
  history ← entries_of_lines entries.0 [] entries.1
  histories_of_lines n (before ++ history.0 ∷ []) history.1

-- a value, where no line is left
abbrev pub at_end : {A : Type 0} → A × Printed → Result A ℕ
at_end read = if length read.1.lines == 0 then Ok read.0 else Err read.1.number

-- the histories of all channels of a drive with so many, or the number of the first line that is wrong
abbrev pub read_history : ℕ → Text → Result (List (List Entry)) ℕ
read_history channels text = histories_of_lines channels [] (printed text) >>= at_end

-- whether the numbers of a slot, of a place and of what a row held fit their fields
abbrev pub is_spelled_slot : Slot → Bool
is_spelled_slot slot = is_below (2 ^ 16) slot.sb && is_below (2 ^ 32) slot.index

abbrev pub is_spelled_place : Place → Bool
is_spelled_place place = is_below (2 ^ 8) place.die && is_below (2 ^ 16) place.sb && is_below (2 ^ 16) place.page

abbrev pub is_spelled_row : Row → Bool
is_spelled_row Empty = true
is_spelled_row Lost = true
is_spelled_row (Page slot serial) = is_spelled_slot slot && is_below (2 ^ 64) serial

-- whether a look says of no stripe that it was closed where it found no page
abbrev pub is_closed_of_page : Row → Bool → Bool
is_closed_of_page Empty closed = not closed
is_closed_of_page Lost closed = not closed
is_closed_of_page (Page slot serial) closed = true

abbrev pub is_spelled_victim : Option ℕ → Bool
is_spelled_victim None = true
is_spelled_victim (Some sb) = is_below (2 ^ 16) sb

-- whether the numbers of what a step did fit their fields
abbrev pub is_spelled_kind : Kind → Bool
is_spelled_kind (Look row found closed) =
    is_below (2 ^ 32) row && is_spelled_row found && is_closed_of_page found closed
is_spelled_kind (Sense at place level) = is_below (2 ^ 32) at && is_spelled_place place && is_short level
is_spelled_kind (Leave at) = is_below (2 ^ 32) at
is_spelled_kind (Write row slot) = is_below (2 ^ 32) row && is_spelled_slot slot
is_spelled_kind (Trim row) = is_below (2 ^ 32) row
is_spelled_kind (Move at slot) = is_below (2 ^ 32) at && is_spelled_slot slot
is_spelled_kind (Changed at found) = is_below (2 ^ 32) at && is_spelled_row found
is_spelled_kind (Condemn at) = is_below (2 ^ 32) at
is_spelled_kind (Stay at worn) = is_below (2 ^ 32) at
is_spelled_kind (Pick sb) = is_below (2 ^ 16) sb
is_spelled_kind (Erase sb) = is_below (2 ^ 16) sb
is_spelled_kind (BadWrite row slot die fault) = is_below (2 ^ 32) row && is_spelled_slot slot && is_below (2 ^ 8) die
is_spelled_kind (BadCopy at slot die fault) = is_below (2 ^ 32) at && is_spelled_slot slot && is_below (2 ^ 8) die
is_spelled_kind (BadErase sb die fault) = is_below (2 ^ 16) sb && is_below (2 ^ 8) die
is_spelled_kind (Age die sb amount) = is_below (2 ^ 8) die && is_below (2 ^ 16) sb && is_below (2 ^ 16) amount
is_spelled_kind (Refused row worn) = is_below (2 ^ 32) row
is_spelled_kind (FaultSense at place level) = is_below (2 ^ 32) at && is_spelled_place place && is_short level
is_spelled_kind (FaultAge die sb amount) = is_below (2 ^ 8) die && is_below (2 ^ 16) sb && is_below (2 ^ 16) amount
is_spelled_kind (Note free victim live pins garbage) =
    is_below (2 ^ 16) free && is_spelled_victim victim && is_below (2 ^ 32) live && is_below (2 ^ 32) pins
    && is_below (2 ^ 16) garbage

-- whether the numbers of an entry fit their fields
abbrev pub is_spelled_entry : Entry → Bool
is_spelled_entry entry =
    is_below (2 ^ 8) entry.tag.actor && is_below (2 ^ 32) entry.tag.call && is_spelled_kind entry.kind

-- whether these may be the entries of a channel: they aren't too many, and their numbers fit their fields
abbrev pub is_spelled_history : List Entry → Bool
is_spelled_history entries = nat_le (length entries) most_entries && list_all is_spelled_entry entries

-- whether these may be the histories of a drive
abbrev pub are_spelled_histories : List (List Entry) → Bool
are_spelled_histories histories = nat_le (length histories) 256 && list_all is_spelled_history histories

-- histories are read from their text
abbrev pub HistoriesAreRead : Type 0
HistoriesAreRead =
    (histories : List (List Entry)) → IsTrue (are_spelled_histories histories) →
    read_history (length histories) (histories_text histories) ≡ Ok histories

-- two different lists of histories never have the same whole text, whatever the replies and counts
abbrev pub WholeTextTellsHistories : Type 0
WholeTextTellsHistories =
    (levels levels' : ℕ) (histories histories' : List (List Entry)) (kinds kinds' : List (List CallKind))
    (answers answers' : List (List Reply)) (dropped dropped' : ℕ) →
    IsTrue (are_spelled_histories histories) → IsTrue (are_spelled_histories histories') →
    run_text true levels histories kinds answers dropped ≡ run_text true levels' histories' kinds' answers' dropped' →
    histories ≡ histories'
