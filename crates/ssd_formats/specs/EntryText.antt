-- How does a history stand in a text? Each entry is one line of words with single spaces between: its position, its
-- actor and call, and what the step did. The texts are this project's own.
use Rattle.std.specs.Prelude.{ℕ, Bool, if◌then◌else◌, List, [], ◌∷◌, ◌++◌, map, length, flat_map, codes, decimal, Option, Some, None}
use Rattle.std.specs.List.{join_with_byte, enumerate_from}
use Rattle.std.specs.Fmt.{signed_decimal}
use Rattle.ssd_formats.specs.Numbers.{Text}
use Rattle.ssd_geo.specs.declared.entry.Entry.{Entry}
use Rattle.ssd_geo.specs.declared.kind.Kind.{Kind}
use Rattle.ssd_geo.specs.declared.kind.Kind.TheVariants.{Look, Sense, Leave, Write, Trim, Move, Changed, Condemn, Stay, Pick, Erase, BadWrite, BadCopy, BadErase, Age, Refused, FaultSense, FaultAge, Note}
use Rattle.ssd_geo.specs.declared.place.Place.{Place}
use Rattle.ssd_geo.specs.declared.row.Row.{Row}
use Rattle.ssd_geo.specs.declared.row.Row.TheVariants.{Empty, Lost, Page}
use Rattle.ssd_geo.specs.declared.slot.Slot.{Slot}
use Rattle.ssd_geo.specs.declared.tag.Tag.{Tag}

-- words with single spaces between
abbrev pub spaced : List Text → Text
spaced words = join_with_byte 32 words

-- numbers with full stops between
abbrev pub dotted : List ℕ → Text
dotted numbers = join_with_byte 46 (map decimal numbers)

-- a line of words: LF stands at its end
abbrev pub line_of : List Text → Text
line_of words = spaced words ++ 10 ∷ []

abbrev pub slot_text : Slot → Text
slot_text slot = dotted (slot.sb ∷ slot.index ∷ [])

abbrev pub place_text : Place → Text
place_text place = dotted (place.die ∷ place.sb ∷ place.page ∷ [])

abbrev pub tag_text : Tag → Text
tag_text tag = dotted (tag.actor ∷ tag.call ∷ [])

-- the words of what a row held
abbrev pub row_words : Row → List Text
row_words Empty = codes "empty" ∷ []
row_words Lost = codes "lost" ∷ []
row_words (Page slot serial) = codes "page" ∷ slot_text slot ∷ decimal serial ∷ []

-- the word for whether a page's stripe was closed; without a page there is none
abbrev pub closed_words : Row → Bool → List Text
closed_words Empty closed = []
closed_words Lost closed = []
closed_words (Page slot serial) closed = (if closed then codes "closed" else codes "open") ∷ []

-- the word for what a die's call did: it failed, or it answered FAIL
abbrev pub fault_word : Bool → Text
fault_word fault = if fault then codes "fault" else codes "fail"

-- the word for a superblock that may be missing
abbrev pub victim_word : Option ℕ → Text
victim_word (Some sb) = decimal sb
victim_word None = codes "-"

-- the words of what a step did
abbrev pub kind_words : Kind → List Text
kind_words (Look row found closed) = codes "look" ∷ decimal row ∷ row_words found ++ closed_words found closed
kind_words (Sense at place level) = codes "sense" ∷ decimal at ∷ place_text place ∷ signed_decimal level ∷ []
kind_words (Leave at) = codes "leave" ∷ decimal at ∷ []
kind_words (Write row slot) = codes "write" ∷ decimal row ∷ slot_text slot ∷ []
kind_words (Trim row) = codes "trim" ∷ decimal row ∷ []
kind_words (Move at slot) = codes "move" ∷ decimal at ∷ slot_text slot ∷ []
kind_words (Changed at found) = codes "changed" ∷ decimal at ∷ row_words found
kind_words (Condemn at) = codes "condemn" ∷ decimal at ∷ []
kind_words (Stay at worn) = codes "stay" ∷ decimal at ∷ (if worn then codes "readonly" else codes "noroom") ∷ []
kind_words (Pick sb) = codes "pick" ∷ decimal sb ∷ []
kind_words (Erase sb) = codes "erase" ∷ decimal sb ∷ []
kind_words (BadWrite row slot die fault) =
    codes "bad" ∷ codes "write" ∷ decimal row ∷ slot_text slot ∷ decimal die ∷ fault_word fault ∷ []
kind_words (BadCopy at slot die fault) =
    codes "bad" ∷ codes "copy" ∷ decimal at ∷ slot_text slot ∷ decimal die ∷ fault_word fault ∷ []
kind_words (BadErase sb die fault) = codes "bad" ∷ codes "erase" ∷ decimal sb ∷ decimal die ∷ fault_word fault ∷ []
kind_words (Age die sb amount) = codes "age" ∷ dotted (die ∷ sb ∷ []) ∷ decimal amount ∷ []
kind_words (Refused row worn) = codes "refused" ∷ decimal row ∷ (if worn then codes "readonly" else codes "full") ∷ []
kind_words (FaultSense at place level) =
    codes "fault" ∷ codes "sense" ∷ decimal at ∷ place_text place ∷ signed_decimal level ∷ []
kind_words (FaultAge die sb amount) = codes "fault" ∷ codes "age" ∷ dotted (die ∷ sb ∷ []) ∷ decimal amount ∷ []
kind_words (Note free victim live pins garbage) =
    codes "note" ∷ decimal free ∷ victim_word victim ∷ decimal live ∷ decimal pins ∷ decimal garbage ∷ []

-- what a step did, as a text
abbrev pub kind_text : Kind → Text
kind_text kind = spaced (kind_words kind)

-- the line of an entry at a position
abbrev pub entry_line : ℕ × Entry → Text
entry_line at = line_of (decimal at.0 ∷ tag_text at.1.tag ∷ kind_words at.1.kind)

-- the line before a channel's entries: the channel and how many they are
abbrev pub channel_line : ℕ → ℕ → Text
channel_line channel count = line_of (codes "channel" ∷ decimal channel ∷ decimal count ∷ [])

-- the history of a channel
abbrev pub history_text : ℕ × List Entry → Text
history_text of = channel_line of.0 (length of.1) ++ flat_map entry_line (enumerate_from 0 of.1)

-- the histories of all channels, in their order
abbrev pub histories_text : List (List Entry) → Text
histories_text histories = flat_map history_text (enumerate_from 0 histories)
