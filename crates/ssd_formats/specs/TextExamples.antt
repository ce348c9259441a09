-- Which histories and replies are printed by hand, to see that the definitions of texts say what is meant?
use Rattle.std.specs.Prelude.{ℕ, true, false, List, [], ◌∷◌, ◌++◌, flat_map, codes, pos, negsuc, Some, None}
use Rattle.ssd_formats.specs.Numbers.{Text}
use Rattle.ssd_geo.specs.declared.entry.Entry.{Entry}
use Rattle.ssd_geo.specs.declared.kind.Kind.{Kind}
use Rattle.ssd_geo.specs.declared.reply.CallKind.{CallKind}
use Rattle.ssd_geo.specs.declared.reply.Reply.{Reply}
use Rattle.ssd_geo.specs.declared.place.Place.{Place}
use Rattle.ssd_geo.specs.declared.slot.Slot.{Slot}
use Rattle.ssd_geo.specs.declared.row.Row.TheVariants.{Empty, Lost, Page}
use Rattle.ssd_geo.specs.declared.kind.Kind.TheVariants as did
use Rattle.ssd_geo.specs.declared.reply.CallKind.TheVariants as kinds
use Rattle.ssd_geo.specs.declared.reply.RefreshReply.TheVariants as refreshes
use Rattle.ssd_geo.specs.declared.reply.Reply.TheVariants as replies

-- these lines, each with LF at its end
abbrev pub lines_text : List Text → Text
lines_text lines = flat_map (λ line. line ++ 10 ∷ []) lines

abbrev pub slot_at : ℕ → ℕ → Slot
slot_at sb index = record { sb = sb; index = index }

abbrev pub place_at : ℕ → ℕ → ℕ → Place
place_at die sb page = record { die = die; sb = sb; page = page }

-- an entry of actor 0
abbrev pub entry_of_call : ℕ → Kind → Entry
entry_of_call call kind = record { tag = record { actor = 0; call = call }; kind = kind }

-- one page is written and read
abbrev pub one_page_history : List Entry
one_page_history =
    entry_of_call 0 (did.Write 5 (slot_at 0 0)) ∷
    entry_of_call 1 (did.Look 5 (Page (slot_at 0 0) 0) false) ∷
    entry_of_call 1 (did.Sense 1 (place_at 1 0 0) (pos 0)) ∷
    entry_of_call 1 (did.Leave 1) ∷ []

abbrev pub one_page_kinds : List CallKind
one_page_kinds = kinds.Write ∷ kinds.Read ∷ []

abbrev pub one_page_replies : List Reply
one_page_replies = replies.Ok ∷ replies.Data 0 (1 ∷ 2 ∷ 0 ∷ 0 ∷ 0 ∷ 0 ∷ 0 ∷ 0 ∷ []) ∷ []

-- its summary
abbrev pub one_page_summary : Text
one_page_summary = lines_text (
    codes "summary" ∷
    codes "write 1 0 0 0" ∷
    codes "read 1 0 0 0" ∷
    codes "trim 0" ∷
    codes "move 0 condemn 0 changed 0 stay 0" ∷
    codes "pick 0 erase 0 bad 0 fault 0" ∷
    codes "sense 1" ∷
    codes "rung 1 0 0 0" ∷
    codes "hint 0 0 0" ∷
    codes "end" ∷ [])

-- and its whole text
abbrev pub one_page_text : Text
one_page_text = lines_text (
    codes "channel 0 4" ∷
    codes "0 0.0 write 5 0.0" ∷
    codes "1 0.1 look 5 page 0.0 0 open" ∷
    codes "2 0.1 sense 1 1.0.0 0" ∷
    codes "3 0.1 leave 1" ∷
    codes "actor 0 2" ∷
    codes "0 ok" ∷
    codes "1 data 0 0102000000000000" ∷ []) ++ one_page_summary

-- no call is made
abbrev pub no_calls_text : Text
no_calls_text = lines_text (
    codes "channel 0 0" ∷
    codes "actor 0 0" ∷
    codes "summary" ∷
    codes "write 0 0 0 0" ∷
    codes "read 0 0 0 0" ∷
    codes "trim 0" ∷
    codes "move 0 condemn 0 changed 0 stay 0" ∷
    codes "pick 0 erase 0 bad 0 fault 0" ∷
    codes "sense 0" ∷
    codes "rung 0 0 0 0" ∷
    codes "hint 0 0 0" ∷
    codes "end" ∷ [])

-- what steps did, one of each kind and with both words where there are two
abbrev pub some_kinds : List Kind
some_kinds =
    did.Look 4 (Page (slot_at 2 11) 1099511627776) true ∷
    did.Look 4 (Page (slot_at 2 11) 7) false ∷
    did.Look 4 Empty false ∷
    did.Look 4 Lost false ∷
    did.Sense 3 (place_at 1 2 10) (negsuc 59) ∷
    did.Leave 3 ∷
    did.Write 0 (slot_at 3 20) ∷
    did.Trim 12 ∷
    did.Move 13 (slot_at 3 0) ∷
    did.Changed 4 (Page (slot_at 1 0) 8) ∷
    did.Changed 4 Empty ∷
    did.Changed 4 Lost ∷
    did.Condemn 9 ∷
    did.Stay 20 true ∷
    did.Stay 20 false ∷
    did.Pick 0 ∷
    did.Erase 255 ∷
    did.BadWrite 0 (slot_at 2 0) 0 false ∷
    did.BadCopy 16 (slot_at 3 1) 0 true ∷
    did.BadErase 1 2 false ∷
    did.Age 1 0 150 ∷
    did.Refused 0 true ∷
    did.Refused 0 false ∷
    did.FaultSense 1 (place_at 1 0 0) (pos 0) ∷
    did.FaultAge 1 0 150 ∷
    did.Note 4 None 0 0 0 ∷
    did.Note 1 (Some 2) 3 4 5 ∷ []

abbrev pub some_kind_texts : List Text
some_kind_texts =
    codes "look 4 page 2.11 1099511627776 closed" ∷
    codes "look 4 page 2.11 7 open" ∷
    codes "look 4 empty" ∷
    codes "look 4 lost" ∷
    codes "sense 3 1.2.10 -60" ∷
    codes "leave 3" ∷
    codes "write 0 3.20" ∷
    codes "trim 12" ∷
    codes "move 13 3.0" ∷
    codes "changed 4 page 1.0 8" ∷
    codes "changed 4 empty" ∷
    codes "changed 4 lost" ∷
    codes "condemn 9" ∷
    codes "stay 20 readonly" ∷
    codes "stay 20 noroom" ∷
    codes "pick 0" ∷
    codes "erase 255" ∷
    codes "bad write 0 2.0 0 fail" ∷
    codes "bad copy 16 3.1 0 fault" ∷
    codes "bad erase 1 2 fail" ∷
    codes "age 1.0 150" ∷
    codes "refused 0 readonly" ∷
    codes "refused 0 full" ∷
    codes "fault sense 1 1.0.0 0" ∷
    codes "fault age 1.0 150" ∷
    codes "note 4 - 0 0 0" ∷
    codes "note 1 2 3 4 5" ∷ []

-- replies, one of each
abbrev pub some_replies : List Reply
some_replies =
    replies.Ok ∷
    replies.Full ∷
    replies.ReadOnly ∷
    replies.DieFault 1 ∷
    replies.Data 3 (1 ∷ 171 ∷ []) ∷
    replies.Empty ∷
    replies.Uncorrectable ∷
    replies.Moved ∷
    replies.Changed ∷
    replies.NoRoom ∷
    replies.Failed ∷
    replies.Collected 0 ∷
    replies.Retired 17 ∷
    replies.Idle ∷
    replies.Drained [] ∷
    replies.Drained ((0, refreshes.Moved) ∷ (12, refreshes.DieFault 2) ∷ []) ∷ []

abbrev pub some_reply_texts : List Text
some_reply_texts =
    codes "ok" ∷
    codes "full" ∷
    codes "readonly" ∷
    codes "diefault.1" ∷
    codes "data 3 01ab" ∷
    codes "empty" ∷
    codes "uncorrectable" ∷
    codes "moved" ∷
    codes "changed" ∷
    codes "noroom" ∷
    codes "failed" ∷
    codes "collected 0" ∷
    codes "retired 17" ∷
    codes "idle" ∷
    codes "drained 0" ∷
    codes "drained 2 0=moved 12=diefault.2" ∷ []

-- texts of nothing that a step did: a word too many or too few, a number that doesn't fit its field or has a leading zero,
-- a word of another place, `-0`, two spaces
abbrev pub no_kind_texts : List Text
no_kind_texts =
    [] ∷
    codes "look 4" ∷
    codes "look 4 page 2.11 7" ∷
    codes "look 4 empty open" ∷
    codes "look 04 empty" ∷
    codes "look 4 page 65536.11 7 open" ∷
    codes "look 4294967296 empty" ∷
    codes "sense 3 256.2.10 0" ∷
    codes "sense 3 1.2 0" ∷
    codes "sense 3 1.2.10 -0" ∷
    codes "sense 3 1.2.10 -32769" ∷
    codes "sense 3 1.2.10 32768" ∷
    codes "leave 3 " ∷
    codes "leave  3" ∷
    codes "write 0 3" ∷
    codes "stay 20 full" ∷
    codes "refused 0 noroom" ∷
    codes "bad move 0 2.0 0 fail" ∷
    codes "bad write 0 2.0 0" ∷
    codes "fault leave 1" ∷
    codes "note 4 -1 0 0 0" ∷ []

-- texts that are no history of one channel, and the first line of each that is wrong: another channel; a position out
-- of turn; a tag without a call; a CR; a last line without LF; too many entries for any channel
abbrev pub wrong_history_texts : List Text
wrong_history_texts =
    lines_text (codes "channel 1 0" ∷ []) ∷
    lines_text (codes "channel 0 1" ∷ codes "1 0.0 trim 3" ∷ []) ∷
    lines_text (codes "channel 0 1" ∷ codes "0 0 trim 3" ∷ []) ∷
    lines_text ((codes "channel 0 1" ++ 13 ∷ []) ∷ codes "0 0.0 trim 3" ∷ []) ∷
    (lines_text (codes "channel 0 1" ∷ []) ++ codes "0 0.0 trim 3") ∷
    lines_text (codes "channel 0 4194305" ∷ []) ∷ []

abbrev pub wrong_history_lines : List ℕ
wrong_history_lines = 1 ∷ 2 ∷ 2 ∷ 1 ∷ 2 ∷ 1 ∷ []
