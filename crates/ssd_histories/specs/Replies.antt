-- What is the reply of a call? It is given by the call's own entries: the first of its steps that decides it. A read
-- is decided by its look, by a failed sense, or by the ladder as it stands when the look is left.
use Rattle.std.specs.Prelude.{ℕ, ◌+◌, ◌*◌, ◌%◌, ◌==◌, Bool, true, false, List, [], ◌∷◌, filter, slice_range, Option, Some, None, unwrap_or, option_map, if◌then◌else◌}
use Rattle.ssd_histories.specs.CallSteps.{CallStep, failed_die}
use Rattle.ssd_geo.specs.Ladder.{LadderState, asks, recovered, uncorrectable}
use Rattle.ssd_geo.specs.declared.entry.Entry.{Entry}
use Rattle.ssd_geo.specs.declared.kind.Kind.{Kind}
use Rattle.ssd_geo.specs.declared.reply.RefreshReply.{RefreshReply}
use Rattle.ssd_geo.specs.declared.reply.Reply.{Reply}
use Rattle.ssd_geo.specs.declared.row.Row.{Row}

-- the reply of the first step that decides one
abbrev pub first_reply : {R : Type 0} → (CallStep → Option R) → List CallStep → Option R
first_reply decided [] = None
first_reply decided (step ∷ steps) = elim (decided step) [ Some reply ↦ Some reply | None ↦ first_reply decided steps ]

-- the reply of an entry in which a die's call failed, if it did
abbrev pub fault_reply : Kind → Option Reply
fault_reply kind = option_map (λ die. Reply.DieFault die) (failed_die kind)

abbrev pub fault_refresh_reply : Kind → Option RefreshReply
fault_refresh_reply kind = option_map (λ die. RefreshReply.DieFault die) (failed_die kind)

-- write: a write gives ok, a refusal readonly or full, and a failed call its die
abbrev pub write_decided : Kind → Option Reply
write_decided (Kind.Write row slot) = Some Reply.Ok
write_decided (Kind.Refused row worn) = Some (if worn then Reply.ReadOnly else Reply.Full)
write_decided kind = fault_reply kind

-- the data bytes of a page's word, which stand after its head of 16 bytes
abbrev pub bytes_of_word : ℕ → List ℕ → List ℕ
bytes_of_word data_length word = slice_range word 16 (16 + data_length)

-- what a ladder gives a read: data of so many bytes, or that the page can't be recovered
abbrev pub reply_of_ladder : ℕ → LadderState → Option Reply
reply_of_ladder data_length (asks place level) = None
reply_of_ladder data_length (recovered rung word) = Some (Reply.Data rung (bytes_of_word data_length word))
reply_of_ladder data_length uncorrectable = Some Reply.Uncorrectable

-- read: a look that found no page, or a failed sense, decides; else the ladder does when the look is left
abbrev pub read_decided : ℕ → (List Entry → ℕ → LadderState) → List Entry → Kind → Option Reply
read_decided data_length ladder past (Kind.Look row Row.Empty closed) = Some Reply.Empty
read_decided data_length ladder past (Kind.Look row Row.Lost closed) = Some Reply.Uncorrectable
read_decided data_length ladder past (Kind.Leave at) = reply_of_ladder data_length (ladder past at)
read_decided data_length ladder past kind = fault_reply kind

-- trim and age: ok after the one entry, or the die whose call failed
abbrev pub single_decided : Kind → Option Reply
single_decided (Kind.Trim row) = Some Reply.Ok
single_decided (Kind.Age die sb amount) = Some Reply.Ok
single_decided kind = fault_reply kind

-- what a ladder gives a refresh that wasn't decided before its look is left
abbrev pub refresh_of_ladder : LadderState → Option RefreshReply
refresh_of_ladder uncorrectable = Some RefreshReply.Uncorrectable
refresh_of_ladder _ = None

-- refresh: as a read for a look that found no page, a failed sense and a page that can't be recovered; else by what
-- became of its copy
abbrev pub refresh_decided : (List Entry → ℕ → LadderState) → List Entry → Kind → Option RefreshReply
refresh_decided ladder past (Kind.Look row Row.Empty closed) = Some RefreshReply.Empty
refresh_decided ladder past (Kind.Look row Row.Lost closed) = Some RefreshReply.Uncorrectable
refresh_decided ladder past (Kind.Move at slot) = Some RefreshReply.Moved
refresh_decided ladder past (Kind.Changed at found) = Some RefreshReply.Changed
refresh_decided ladder past (Kind.Stay at worn) = Some (if worn then RefreshReply.ReadOnly else RefreshReply.NoRoom)
refresh_decided ladder past (Kind.BadCopy at slot die false) = Some RefreshReply.Failed
refresh_decided ladder past (Kind.Leave at) = refresh_of_ladder (ladder past at)
refresh_decided ladder past kind = fault_refresh_reply kind

-- collect: an erase gives collected, one that answered FAIL retired, and a failed call its die
abbrev pub collect_decided : Kind → Option Reply
collect_decided (Kind.Erase sb) = Some (Reply.Collected sb)
collect_decided (Kind.BadErase sb die false) = Some (Reply.Retired sb)
collect_decided kind = fault_reply kind

-- the replies of the calls that have their entries on one channel
abbrev pub write_reply : List CallStep → Option Reply
write_reply steps = first_reply (λ step. write_decided step.entry.kind) steps

abbrev pub read_reply : ℕ → (List Entry → ℕ → LadderState) → List CallStep → Option Reply
read_reply data_length ladder steps = first_reply (λ step. read_decided data_length ladder step.past step.entry.kind) steps

abbrev pub single_reply : List CallStep → Option Reply
single_reply steps = first_reply (λ step. single_decided step.entry.kind) steps

abbrev pub refresh_reply : (List Entry → ℕ → LadderState) → List CallStep → Option RefreshReply
refresh_reply ladder steps = first_reply (λ step. refresh_decided ladder step.past step.entry.kind) steps

abbrev pub collect_reply : List CallStep → Reply
collect_reply steps = unwrap_or (first_reply (λ step. collect_decided step.entry.kind) steps) Reply.Idle

-- the reply of a call of one page, from that of its refresh
abbrev pub reply_of_refresh : RefreshReply → Reply
reply_of_refresh RefreshReply.Moved = Reply.Moved
reply_of_refresh RefreshReply.Changed = Reply.Changed
reply_of_refresh RefreshReply.Empty = Reply.Empty
reply_of_refresh RefreshReply.Uncorrectable = Reply.Uncorrectable
reply_of_refresh RefreshReply.NoRoom = Reply.NoRoom
reply_of_refresh RefreshReply.ReadOnly = Reply.ReadOnly
reply_of_refresh RefreshReply.Failed = Reply.Failed
reply_of_refresh (RefreshReply.DieFault die) = Reply.DieFault die

-- the row that a step looks at, if it is a look
abbrev pub row_looked_at : Kind → Option ℕ
row_looked_at (Kind.Look row found closed) = Some row
row_looked_at _ = None

-- the refreshes that a drain made on a channel, by its looks in order: each page, the number of the host, with the reply
-- that the steps from its look on decide. With C channels row r of channel c is page r * C + c.
abbrev pub drained_on : (List Entry → ℕ → LadderState) → ℕ → ℕ → List CallStep → List (ℕ × Option RefreshReply)
drained_on ladder channels channel [] = []
drained_on ladder channels channel (step ∷ steps) =
    elim (row_looked_at step.entry.kind) [
      | Some row ↦ (row * channels + channel, refresh_reply ladder (step ∷ steps)) ∷ drained_on ladder channels channel steps
      | None ↦ drained_on ladder channels channel steps
    ]

-- the drained pages of a channel, in order, with their replies
abbrev pub pages_on : ℕ → ℕ → List (ℕ × RefreshReply) → List (ℕ × RefreshReply)
pages_on channels channel pages = filter (λ drained. drained.0 % channels == channel) pages

-- the pages of a list with each reply as one that was decided
abbrev pub decided_pages : List (ℕ × RefreshReply) → List (ℕ × Option RefreshReply)
decided_pages [] = []
decided_pages (drained ∷ pages) = (drained.0, Some drained.1) ∷ decided_pages pages

-- whether a reply is that of a failed call
abbrev pub is_die_fault : RefreshReply → Bool
is_die_fault (RefreshReply.DieFault die) = true
is_die_fault _ = false

-- whether only the last of some drained pages may have the reply of a failed call
abbrev pub is_fault_last : List (ℕ × RefreshReply) → Bool
is_fault_last [] = true
is_fault_last (drained ∷ []) = true
is_fault_last (drained ∷ next ∷ pages) = elim (is_die_fault drained.1) [ true ↦ false | false ↦ is_fault_last (next ∷ pages) ]
