-- The text of what is printed, off lists that are those that are printed.
use Rattle.std.proofs.Common.{ℕ, ◌≡◌, List, length, refl}
use Rattle.ssd_formats.specs.RunText.{run_text}
use Rattle.ssd_geo.specs.declared.entry.Entry.{Entry}
use Rattle.ssd_geo.specs.declared.reply.CallKind.{CallKind}
use Rattle.ssd_geo.specs.declared.reply.Reply.{Reply}
use Rattle.ssd_top.specs.Printed.{text_of}
use Rattle.ssd_top.specs.declared.printed.Printed.{Printed}

pub text_of-lists : (printed : Printed) (histories : List (List Entry)) (kinds : List (List CallKind)) (replies : List (List Reply)) (dropped : ℕ)
    → histories ≡ printed.histories.items → kinds ≡ printed.kinds.items → replies ≡ printed.replies.items → dropped ≡ printed.dropped
    → run_text printed.whole (length printed.head.read_levels) histories kinds replies dropped ≡ text_of printed
text_of-lists printed histories kinds replies dropped of_histories of_kinds of_replies of_dropped =
    rw (of_histories, of_kinds, of_replies, of_dropped) refl
