-- Which replies are counted by hand, to see that a summary counts what is meant? Those of one actor's calls: writes with a
-- trim, reads, refreshes with collects, and reads whose hints drains take.
use Rattle.std.specs.Prelude.{ℕ, true, List, [], ◌∷◌, codes}
use Rattle.ssd_formats.specs.Numbers.{Text}
use Rattle.ssd_formats.specs.RunText.{run_text}
use Rattle.ssd_formats.specs.TextExamples.{lines_text}
use Rattle.ssd_geo.specs.declared.reply.CallKind.{CallKind}
use Rattle.ssd_geo.specs.declared.reply.CallKind.TheVariants.{Read, Write, Trim, Refresh, Collect, Drain}
use Rattle.ssd_geo.specs.declared.reply.RefreshReply.TheVariants as refreshes
use Rattle.ssd_geo.specs.declared.reply.Reply.{Reply}
use Rattle.ssd_geo.specs.declared.reply.Reply.TheVariants as replies

-- what a run prints at the read levels 0 and -60, in which one actor's calls had these replies
abbrev pub actor_run : List CallKind → List Reply → ℕ → Text
actor_run kinds answers dropped = run_text true 2 [] (kinds ∷ []) (answers ∷ []) dropped

-- a summary without entries: its lines of writes, reads and trims, and those of rungs and hints
abbrev pub counted : Text → Text → Text → Text → Text → List Text
counted writes reads trims rungs hints =
    codes "summary" ∷
    writes ∷
    reads ∷
    trims ∷
    codes "move 0 condemn 0 changed 0 stay 0" ∷
    codes "pick 0 erase 0 bad 0 fault 0" ∷
    codes "sense 0" ∷
    rungs ∷
    hints ∷
    codes "end" ∷ []

-- each reply to a write, and one to a trim; the last call has no reply yet
abbrev pub write_kinds : List CallKind
write_kinds = Write ∷ Write ∷ Write ∷ Write ∷ Trim ∷ Write ∷ []

abbrev pub write_replies : List Reply
write_replies = replies.Ok ∷ replies.Full ∷ replies.ReadOnly ∷ replies.DieFault 1 ∷ replies.Ok ∷ []

abbrev pub writes_text : Text
writes_text = lines_text (
    codes "actor 0 5" ∷
    codes "0 ok" ∷
    codes "1 full" ∷
    codes "2 readonly" ∷
    codes "3 diefault.1" ∷
    codes "4 ok" ∷
    counted (codes "write 1 1 1 1") (codes "read 0 0 0 0") (codes "trim 1") (codes "rung 0 0 0 0") (codes "hint 0 0 0"))

-- each reply to a read: one of the two hints was dropped
abbrev pub read_kinds : List CallKind
read_kinds = Read ∷ Read ∷ Read ∷ Read ∷ Read ∷ Read ∷ []

abbrev pub read_replies : List Reply
read_replies =
    replies.Data 0 [] ∷ replies.Data 1 [] ∷ replies.Data 3 (1 ∷ 171 ∷ []) ∷ replies.Empty ∷ replies.Uncorrectable ∷
    replies.DieFault 2 ∷ []

abbrev pub reads_text : Text
reads_text = lines_text (
    codes "actor 0 6" ∷
    codes "0 data 0 " ∷
    codes "1 data 1 " ∷
    codes "2 data 3 01ab" ∷
    codes "3 empty" ∷
    codes "4 uncorrectable" ∷
    codes "5 diefault.2" ∷
    counted (codes "write 0 0 0 0") (codes "read 3 1 1 1") (codes "trim 0") (codes "rung 1 1 0 1") (codes "hint 1 1 0"))

-- replies to refreshes and collects, which the summary doesn't count
abbrev pub refresh_kinds : List CallKind
refresh_kinds = Refresh ∷ Refresh ∷ Refresh ∷ Refresh ∷ Collect ∷ Collect ∷ Collect ∷ []

abbrev pub refresh_replies : List Reply
refresh_replies =
    replies.Moved ∷ replies.Changed ∷ replies.NoRoom ∷ replies.Failed ∷ replies.Collected 0 ∷ replies.Retired 17 ∷
    replies.Idle ∷ []

abbrev pub refreshes_text : Text
refreshes_text = lines_text (
    codes "actor 0 7" ∷
    codes "0 moved" ∷
    codes "1 changed" ∷
    codes "2 noroom" ∷
    codes "3 failed" ∷
    codes "4 collected 0" ∷
    codes "5 retired 17" ∷
    codes "6 idle" ∷
    counted (codes "write 0 0 0 0") (codes "read 0 0 0 0") (codes "trim 0") (codes "rung 0 0 0 0") (codes "hint 0 0 0"))

-- two reads with hints, and two drains, of which the second takes both
abbrev pub drain_kinds : List CallKind
drain_kinds = Read ∷ Read ∷ Drain ∷ Drain ∷ []

abbrev pub drain_replies : List Reply
drain_replies =
    replies.Data 1 [] ∷ replies.Data 2 [] ∷ replies.Drained [] ∷
    replies.Drained ((0, refreshes.Moved) ∷ (12, refreshes.DieFault 2) ∷ []) ∷ []

abbrev pub drains_text : Text
drains_text = lines_text (
    codes "actor 0 4" ∷
    codes "0 data 1 " ∷
    codes "1 data 2 " ∷
    codes "2 drained 0" ∷
    codes "3 drained 2 0=moved 12=diefault.2" ∷
    counted (codes "write 0 0 0 0") (codes "read 2 0 0 0") (codes "trim 0") (codes "rung 0 1 1 0") (codes "hint 2 0 2"))
