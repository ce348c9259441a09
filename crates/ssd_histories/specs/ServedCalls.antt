-- What does one call add to the history of its channel, where calls are served one after the other and each write finds room?
-- A write, a trim and an ageing add one entry each. A read adds its look, and where that found a page its senses and the leave.
use Rattle.std.specs.Prelude.{ℕ, ◌≡◌, ◌/◌, ◌⊎◌, false, Bool, List, [], ◌∷◌, length, Option, Some, None, ℤ}
use Rattle.ssd_geo.specs.Coding.{coding_of}
use Rattle.ssd_histories.specs.PastPages.{ladder_of}
use Rattle.ssd_histories.specs.Replies.{reply_of_ladder}
use Rattle.ssd_histories.specs.SerialCalls.{entry_of}
use Rattle.ssd_histories.specs.Start.{Start}
use Rattle.ssd_geo.specs.declared.entry.Entry.{Entry}
use Rattle.ssd_geo.specs.declared.kind.Kind.{Kind}
use Rattle.ssd_geo.specs.declared.place.Place.{Place}
use Rattle.ssd_geo.specs.declared.reply.Reply.{Reply}
use Rattle.ssd_geo.specs.declared.row.Row.{Row}
use Rattle.ssd_geo.specs.declared.slot.Slot.{Slot}
use Rattle.ssd_geo.specs.declared.tag.Tag.{Tag}
use Rattle.ssd_geo.specs.declared.trace.Verb.{Verb}

-- the past after a write, after a trim, and after the ageing of a block
abbrev pub after_write : Tag → ℕ → Slot → List Entry → List Entry
after_write tag row slot past = entry_of tag (Kind.Write row slot) ∷ past

abbrev pub after_trim : Tag → ℕ → List Entry → List Entry
after_trim tag row past = entry_of tag (Kind.Trim row) ∷ past

abbrev pub after_age : Tag → ℕ → ℕ → ℕ → List Entry → List Entry
after_age tag die sb amount past = entry_of tag (Kind.Age die sb amount) ∷ past

-- the past after a look that found no page but this
abbrev pub after_lone_look : Tag → ℕ → Row → List Entry → List Entry
after_lone_look tag row found past = entry_of tag (Kind.Look row found false) ∷ past

-- the past after a look that found a page
abbrev pub after_look : Tag → ℕ → Slot → ℕ → Bool → List Entry → List Entry
after_look tag row slot serial closed past = entry_of tag (Kind.Look row (Row.Page slot serial) closed) ∷ past

-- the past after more senses for the look that began at a position: each of a place at a level, in order
abbrev pub after_senses : Tag → ℕ → List (Place × ℤ) → List Entry → List Entry
after_senses tag at [] past = past
after_senses tag at (sensed ∷ more) past = after_senses tag at more (entry_of tag (Kind.Sense at sensed.0 sensed.1) ∷ past)

-- the past after a look and its senses, and after its leave
abbrev pub after_sensing : Tag → ℕ → Slot → ℕ → Bool → List (Place × ℤ) → List Entry → List Entry
after_sensing tag row slot serial closed senses past =
    after_senses tag (length past) senses (after_look tag row slot serial closed past)

abbrev pub after_leave : Tag → ℕ → Slot → ℕ → Bool → List (Place × ℤ) → List Entry → List Entry
after_leave tag row slot serial closed senses past =
    entry_of tag (Kind.Leave (length past)) ∷ after_sensing tag row slot serial closed senses past

-- a write went to some slot
pub record HasWritten (tag : Tag) (row : ℕ) (before after : List Entry) : Type 0 where
  pub slot : Slot
  pub after_is : after ≡ after_write tag row slot before

-- the reply of a read whose look found no page but this
abbrev pub reply_to_none : Row → Option Reply
reply_to_none Row.Empty = Some Reply.Empty
reply_to_none Row.Lost = Some Reply.Uncorrectable
reply_to_none (Row.Page slot serial) = None

-- a read found no page
pub record HasFoundNone (tag : Tag) (row : ℕ) (before after : List Entry) (reply : Reply) : Type 0 where
  pub found : Row
  pub reply_is : reply_to_none found ≡ Some reply
  pub after_is : after ≡ after_lone_look tag row found before

-- a read found a page, and gave the answer of the ladder over its senses
pub record HasReadPage (start : Start) (contents : List (Tag × List ℕ)) (tag : Tag) (row : ℕ) (before after : List Entry) (reply : Reply) : Type 0 where
  pub slot : Slot
  pub serial : ℕ
  pub closed : Bool
  pub senses : List (Place × ℤ)
  pub after_is : after ≡ after_leave tag row slot serial closed senses before
  pub reply_is :
      reply_of_ladder start.base.shape.bytes
      (ladder_of (coding_of start.base) start contents (after_sensing tag row slot serial closed senses before) (length before))
      ≡ Some reply

-- a call of a verb with this reply led a channel from one past to another. With C channels page x is row x / C.
abbrev pub IsServedBy : Start → List (Tag × List ℕ) → ℕ → Tag → Verb → Reply → List Entry → List Entry → Type 0
IsServedBy start contents channels tag (Verb.Write page content) reply before after =
    (reply ≡ Reply.Ok) × HasWritten tag (page / channels) before after
IsServedBy start contents channels tag (Verb.Read page) reply before after =
    HasFoundNone tag (page / channels) before after reply
    ⊎ HasReadPage start contents tag (page / channels) before after reply
IsServedBy start contents channels tag (Verb.Trim page) reply before after =
    (reply ≡ Reply.Ok) × (after ≡ after_trim tag (page / channels) before)
IsServedBy start contents channels tag (Verb.Age channel die sb amount) reply before after =
    (reply ≡ Reply.Ok) × (after ≡ after_age tag die sb amount before)
IsServedBy start contents channels tag (Verb.Refresh page) reply before after = ⊥
IsServedBy start contents channels tag (Verb.Collect channel) reply before after = ⊥
IsServedBy start contents channels tag (Verb.Drain count) reply before after = ⊥
