-- How is the summary of a run printed from counts at places? In lines of calls, of entries, of rungs and of hints.
use Rattle.std.specs.Prelude.{ℕ, List, [], ◌∷◌, ◌++◌, codes, decimal, slice_index}
use Rattle.ssd_formats.specs.Numbers.{Text}
use Rattle.ssd_formats.specs.EntryText.{line_of}
use Rattle.ssd_formats.specs.RunText.{Summary, count_line}
use Rattle.history_text.specs.declared.summary.Hints.{Hints}

-- the lines from `summary` to that of trims, from the counts of calls
abbrev pub call_lines : List ℕ → Text
call_lines calls =
    line_of (codes "summary" ∷ []) ++
    (count_line (codes "write") (slice_index calls 0 ∷ slice_index calls 1 ∷ slice_index calls 2 ∷ slice_index calls 3 ∷ []) ++
    (count_line (codes "read") (slice_index calls 4 ∷ slice_index calls 5 ∷ slice_index calls 6 ∷ slice_index calls 7 ∷ []) ++
    count_line (codes "trim") (slice_index calls 8 ∷ [])))

-- the lines from that of moves to that of senses, from the counts of entries
abbrev pub entry_lines : List ℕ → Text
entry_lines entries =
    line_of (codes "move" ∷ decimal (slice_index entries 0) ∷ codes "condemn" ∷ decimal (slice_index entries 1) ∷ codes "changed" ∷ decimal (slice_index entries 2) ∷ codes "stay" ∷ decimal (slice_index entries 3) ∷ []) ++
    (line_of (codes "pick" ∷ decimal (slice_index entries 4) ∷ codes "erase" ∷ decimal (slice_index entries 5) ∷ codes "bad" ∷ decimal (slice_index entries 6) ∷ codes "fault" ∷ decimal (slice_index entries 7) ∷ []) ++
    count_line (codes "sense") (slice_index entries 8 ∷ []))

-- the lines of hints and of the end
abbrev pub last_lines : Hints → Text
last_lines hints = count_line (codes "hint") (hints.pushed ∷ hints.dropped ∷ hints.taken ∷ []) ++ line_of (codes "end" ∷ [])

-- the summary of counts at their places
abbrev pub placed_summary : List ℕ → List ℕ → List ℕ → Hints → Summary
placed_summary calls entries rungs hints = record {
  write_ok = slice_index calls 0;
  write_full = slice_index calls 1;
  write_readonly = slice_index calls 2;
  write_diefault = slice_index calls 3;
  read_data = slice_index calls 4;
  read_empty = slice_index calls 5;
  read_uncorrectable = slice_index calls 6;
  read_diefault = slice_index calls 7;
  trims = slice_index calls 8;
  moves = slice_index entries 0;
  condemns = slice_index entries 1;
  changes = slice_index entries 2;
  stays = slice_index entries 3;
  picks = slice_index entries 4;
  erases = slice_index entries 5;
  bads = slice_index entries 6;
  faults = slice_index entries 7;
  senses = slice_index entries 8;
  rungs = rungs;
  pushed = hints.pushed;
  dropped = hints.dropped;
  taken = hints.taken;
}
