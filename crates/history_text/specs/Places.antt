-- Which count of a summary has an entry, and which an answered call? Each is counted at one place of a list, and what no
-- line of the summary counts stands at the last place.
use Rattle.std.specs.Prelude.{ℕ, ◌<◌, ◌≤◌, ◌==◌, List, [], length, count_by, slice_index_or}
use Rattle.ssd_formats.specs.RunText.{Answered}
use Rattle.ssd_geo.specs.declared.entry.Entry.{Entry}
use Rattle.ssd_geo.specs.declared.kind.Kind.{Kind}
use Rattle.ssd_geo.specs.declared.reply.CallKind.{CallKind}
use Rattle.ssd_geo.specs.declared.reply.Reply.{Reply}
use Rattle.ssd_geo.specs.declared.kind.Kind.TheVariants as did
use Rattle.ssd_geo.specs.declared.reply.CallKind.TheVariants as kinds
use Rattle.ssd_geo.specs.declared.reply.Reply.TheVariants as replies

-- the place of what a step did: moves, condemns, changes, stays, picks, erases, bad ones, faults and senses
abbrev pub kind_place : Kind → ℕ
kind_place (did.Look row found closed) = 9
kind_place (did.Sense at place level) = 8
kind_place (did.Leave at) = 9
kind_place (did.Write row slot) = 9
kind_place (did.Trim row) = 9
kind_place (did.Move at slot) = 0
kind_place (did.Changed at found) = 2
kind_place (did.Condemn at) = 1
kind_place (did.Stay at worn) = 3
kind_place (did.Pick sb) = 4
kind_place (did.Erase sb) = 5
kind_place (did.BadWrite row slot die fault) = 6
kind_place (did.BadCopy at slot die fault) = 6
kind_place (did.BadErase sb die fault) = 6
kind_place (did.Age die sb amount) = 9
kind_place (did.Refused row worn) = 9
kind_place (did.FaultSense at place level) = 7
kind_place (did.FaultAge die sb amount) = 7
kind_place (did.Note free victim live pins garbage) = 9

-- the place of a reply to a write: ok, full, readonly and diefault
abbrev pub write_place : Reply → ℕ
write_place replies.Ok = 0
write_place replies.Full = 1
write_place replies.ReadOnly = 2
write_place (replies.DieFault die) = 3
write_place (replies.Data rung bytes) = 9
write_place replies.Empty = 9
write_place replies.Uncorrectable = 9
write_place replies.Moved = 9
write_place replies.Changed = 9
write_place replies.NoRoom = 9
write_place replies.Failed = 9
write_place (replies.Collected sb) = 9
write_place (replies.Retired sb) = 9
write_place replies.Idle = 9
write_place (replies.Drained pages) = 9

-- the place of a reply to a read: data, empty, uncorrectable and diefault
abbrev pub read_place : Reply → ℕ
read_place replies.Ok = 9
read_place replies.Full = 9
read_place replies.ReadOnly = 9
read_place (replies.DieFault die) = 7
read_place (replies.Data rung bytes) = 4
read_place replies.Empty = 5
read_place replies.Uncorrectable = 6
read_place replies.Moved = 9
read_place replies.Changed = 9
read_place replies.NoRoom = 9
read_place replies.Failed = 9
read_place (replies.Collected sb) = 9
read_place (replies.Retired sb) = 9
read_place replies.Idle = 9
read_place (replies.Drained pages) = 9

-- the place of an answered call: those of writes, those of reads, and all trims
abbrev pub call_place : CallKind → Reply → ℕ
call_place kinds.Write reply = write_place reply
call_place kinds.Read reply = read_place reply
call_place kinds.Trim reply = 8
call_place kinds.Refresh reply = 9
call_place kinds.Collect reply = 9
call_place kinds.Drain reply = 9
call_place kinds.Age reply = 9

-- how many entries have a place
abbrev pub placed_entries : ℕ → List Entry → ℕ
placed_entries k entries = count_by (λ entry. kind_place entry.kind == k) entries

-- how many answered calls have a place
abbrev pub placed_calls : ℕ → List Answered → ℕ
placed_calls k calls = count_by (λ call. call_place call.0 call.1 == k) calls

-- the place of a reply's rung: its number, or 256 where it isn't data
abbrev pub rung_place : Reply → ℕ
rung_place (replies.Data rung bytes) = rung
rung_place replies.Ok = 256
rung_place replies.Full = 256
rung_place replies.ReadOnly = 256
rung_place (replies.DieFault die) = 256
rung_place replies.Empty = 256
rung_place replies.Uncorrectable = 256
rung_place replies.Moved = 256
rung_place replies.Changed = 256
rung_place replies.NoRoom = 256
rung_place replies.Failed = 256
rung_place (replies.Collected sb) = 256
rung_place (replies.Retired sb) = 256
rung_place replies.Idle = 256
rung_place (replies.Drained pages) = 256

-- how many replies have a rung's place
abbrev pub placed_rungs : ℕ → List Reply → ℕ
placed_rungs k replies = count_by (λ reply. rung_place reply == k) replies

-- the kinds of each actor's calls are at least as many as its replies
abbrev pub AsLong : List (List CallKind) → List (List Reply) → Type 0
AsLong kinds answers = (k : ℕ) → k < length answers → length (slice_index_or answers k []) ≤ length (slice_index_or kinds k [])
