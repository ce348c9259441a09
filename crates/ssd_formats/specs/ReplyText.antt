-- How do the replies of calls stand in a text? The texts are this project's own.
use Rattle.std.specs.Prelude.{ℕ, Bool, true, false, List, [], ◌∷◌, ◌++◌, map, length, flat_map, codes, decimal}
use Rattle.std.specs.List.{enumerate_from}
use Rattle.ssd_formats.specs.Numbers.{Text, hex_of_bytes}
use Rattle.ssd_formats.specs.EntryText.{line_of}
use Rattle.ssd_geo.specs.declared.reply.RefreshReply.{RefreshReply}
use Rattle.ssd_geo.specs.declared.reply.Reply.{Reply}
use Rattle.ssd_geo.specs.declared.reply.RefreshReply.TheVariants as refreshes
use Rattle.ssd_geo.specs.declared.reply.Reply.TheVariants as replies

-- a word, a full stop and a number
abbrev pub word_and_number : Text → ℕ → Text
word_and_number word n = word ++ codes "." ++ decimal n

-- the reply of the refresh of a page
abbrev pub refresh_text : RefreshReply → Text
refresh_text refreshes.Moved = codes "moved"
refresh_text refreshes.Changed = codes "changed"
refresh_text refreshes.Empty = codes "empty"
refresh_text refreshes.Uncorrectable = codes "uncorrectable"
refresh_text refreshes.NoRoom = codes "noroom"
refresh_text refreshes.ReadOnly = codes "readonly"
refresh_text refreshes.Failed = codes "failed"
refresh_text (refreshes.DieFault die) = word_and_number (codes "diefault") die

-- a page whose hint was taken, with the reply of its refresh
abbrev pub drained_text : ℕ × RefreshReply → Text
drained_text page = decimal page.0 ++ codes "=" ++ refresh_text page.1

-- the words of a reply
abbrev pub reply_words : Reply → List Text
reply_words replies.Ok = codes "ok" ∷ []
reply_words replies.Full = codes "full" ∷ []
reply_words replies.ReadOnly = codes "readonly" ∷ []
reply_words (replies.DieFault die) = word_and_number (codes "diefault") die ∷ []
reply_words (replies.Data rung bytes) = codes "data" ∷ decimal rung ∷ hex_of_bytes bytes ∷ []
reply_words replies.Empty = codes "empty" ∷ []
reply_words replies.Uncorrectable = codes "uncorrectable" ∷ []
reply_words replies.Moved = codes "moved" ∷ []
reply_words replies.Changed = codes "changed" ∷ []
reply_words replies.NoRoom = codes "noroom" ∷ []
reply_words replies.Failed = codes "failed" ∷ []
reply_words (replies.Collected sb) = codes "collected" ∷ decimal sb ∷ []
reply_words (replies.Retired sb) = codes "retired" ∷ decimal sb ∷ []
reply_words replies.Idle = codes "idle" ∷ []
reply_words (replies.Drained pages) = codes "drained" ∷ decimal (length pages) ∷ map drained_text pages

-- the line of the reply to a call of this number
abbrev pub reply_line : ℕ × Reply → Text
reply_line call = line_of (decimal call.0 ∷ reply_words call.1)

-- the line before an actor's replies: the actor and how many they are
abbrev pub actor_line : ℕ → ℕ → Text
actor_line actor count = line_of (codes "actor" ∷ decimal actor ∷ decimal count ∷ [])

-- the replies of an actor
abbrev pub actor_text : ℕ × List Reply → Text
actor_text numbered = actor_line numbered.0 (length numbered.1) ++ flat_map reply_line (enumerate_from 0 numbered.1)

-- the replies of all actors, in their order
abbrev pub actors_text : List (List Reply) → Text
actors_text replies = flat_map actor_text (enumerate_from 0 replies)
