-- Which histories aren't lawful? Each is one of the worked histories with one entry changed, up to that entry or to the
-- end.
use Rattle.std.specs.Prelude.{ℕ, ◌+◌, List, [], ◌∷◌, ◌++◌, take, drop, false, negsuc}
use Rattle.ssd_histories.specs.HistoryExamples.{collected_history, faulted_history, overwritten_history, page, pinned_history, place, step, trimmed_history, worn_history}
use Rattle.ssd_histories.specs.PageMap.{slot_at}
use Rattle.ssd_geo.specs.declared.entry.Entry.{Entry}
use Rattle.ssd_geo.specs.declared.kind.Kind.{Kind}

-- a history with the entry at a position changed, up to that entry, and to the end
abbrev pub changed_up_to : ℕ → Entry → List Entry → List Entry
changed_up_to at entry history = take at history ++ entry ∷ []

abbrev pub changed_at : ℕ → Entry → List Entry → List Entry
changed_at at entry history = take at history ++ entry ∷ drop (at + 1) history

-- the victim is erased while a look stands in it
abbrev pub erase_under_pin : List Entry
erase_under_pin = changed_up_to 11 (step 2 0 (Kind.Erase 0)) pinned_history

-- a page is copied though its row was written anew
abbrev pub stale_move : List Entry
stale_move = changed_at 12 (step 1 0 (Kind.Move 4 (slot_at 1 1))) pinned_history

-- a write takes a slot that isn't the next
abbrev pub skipped_slot : List Entry
skipped_slot = changed_at 1 (step 0 1 (Kind.Write 3 (slot_at 0 2))) overwritten_history

-- a write takes the last free superblock
abbrev pub write_without_room : List Entry
write_without_room = changed_up_to 12 (step 0 12 (Kind.Write 5 (slot_at 3 0))) collected_history

-- a free superblock is picked
abbrev pub free_pick : List Entry
free_pick = changed_up_to 12 (step 0 12 (Kind.Pick 3)) collected_history

-- a write is refused though there is room
abbrev pub needless_refusal : List Entry
needless_refusal = changed_at 1 (step 0 1 (Kind.Refused 3 false)) trimmed_history

-- a look says that the stripe of a page is open though it is closed
abbrev pub early_closing : List Entry
early_closing = changed_at 2 (step 0 2 (Kind.Look 3 (page 0 1 1) false)) overwritten_history

-- a look is sensed again after a sense of it failed
abbrev pub sense_after_fault : List Entry
sense_after_fault = changed_up_to 3 (step 0 1 (Kind.Sense 1 (place 1 0 0) (negsuc 59))) faulted_history

-- a look is left before its page was sensed
abbrev pub early_leave : List Entry
early_leave = changed_up_to 3 (step 0 2 (Kind.Leave 2)) overwritten_history

-- a copy that stays isn't said to be worn
abbrev pub wrong_flag : List Entry
wrong_flag = changed_up_to 22 (step 0 10 (Kind.Stay 20 false)) worn_history

-- a program answers FAIL in a superblock that isn't weak
abbrev pub sound_failure : List Entry
sound_failure = changed_up_to 1 (step 0 1 (Kind.BadWrite 3 (slot_at 0 1) 2 false)) overwritten_history
