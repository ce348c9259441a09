-- Which parts of a run's text are printed by calls of their own? The entries of a history, and the replies of an actor.
use Rattle.std.specs.Prelude.{List, flat_map}
use Rattle.std.specs.List.{enumerate_from}
use Rattle.ssd_formats.specs.Numbers.{Text}
use Rattle.ssd_formats.specs.EntryText.{entry_line}
use Rattle.ssd_formats.specs.ReplyText.{reply_line}
use Rattle.ssd_geo.specs.declared.entry.Entry.{Entry}
use Rattle.ssd_geo.specs.declared.reply.Reply.{Reply}

-- the lines of a history's entries
abbrev pub entries_text : List Entry → Text
entries_text entries = flat_map entry_line (enumerate_from 0 entries)

-- the lines of an actor's replies
abbrev pub replies_text : List Reply → Text
replies_text replies = flat_map reply_line (enumerate_from 0 replies)
