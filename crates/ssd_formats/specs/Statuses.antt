-- With which number does a run end, and which text tells it? Numbers and texts are this project's own.
use Rattle.std.specs.Prelude.{ℕ, [], ◌∷◌, codes, decimal, ◌++◌}
use Rattle.ssd_formats.specs.Numbers.{Text}
use Rattle.ssd_formats.specs.EntryText.{line_of}
use Rattle.ssd_formats.specs.InputFaults.{ImageFault, image_fault_word, TraceFault, trace_fault_word}

-- How a run ended: all was done; the words were refused; an image had this fault at this place; a trace had this fault
-- in this line; the source failed; the sink failed; the history of this channel, of this length, met its limit; memory
-- was wanted and refused; this die, counted over all channels, failed while contents were loaded or saved.
pub data Status : Type 0 where
  done : Status
  words_refused : Status
  image : ℕ → ImageFault → Status
  trace : ℕ → TraceFault → Status
  read_fault : Status
  write_fault : Status
  history_limit : ℕ → ℕ → Status
  out_of_memory : Status
  die_failed : ℕ → Status

-- the number with which the program ends
abbrev pub status_number : Status → ℕ
status_number done = 0
status_number words_refused = 2
status_number (image at fault) = 3
status_number (trace line fault) = 4
status_number read_fault = 5
status_number write_fault = 6
status_number (history_limit channel length) = 7
status_number out_of_memory = 8
status_number (die_failed die) = 9

-- a number and the `:` after it
abbrev pub with_colon : ℕ → Text
with_colon n = decimal n ++ codes ":"

-- the text that tells it: a line, or nothing where all was done
abbrev pub status_text : Status → Text
status_text done = []
status_text words_refused = line_of (codes "words refused" ∷ [])
status_text (image at fault) = line_of (codes "image fault at" ∷ with_colon at ∷ image_fault_word fault ∷ [])
status_text (trace line fault) = line_of (codes "trace fault in line" ∷ with_colon line ∷ trace_fault_word fault ∷ [])
status_text read_fault = line_of (codes "read fault" ∷ [])
status_text write_fault = line_of (codes "write fault" ∷ [])
status_text (history_limit channel length) =
    line_of (codes "history limit on channel" ∷ decimal channel ∷ codes "at" ∷ decimal length ∷ [])
status_text out_of_memory = line_of (codes "out of memory" ∷ [])
status_text (die_failed die) = line_of (codes "die" ∷ decimal die ∷ codes "failed" ∷ [])
