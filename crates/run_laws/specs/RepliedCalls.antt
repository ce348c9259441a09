-- What does one call add to the history of its channel, where calls are served one after the other and the calls of dies may
-- fail? A write and a collect add what such calls make with their rounds, and a refresh its look and its copy; these entries
-- decide the reply. A trim adds one entry, and so does an ageing, done or failed. A read adds its look, and where that found a
-- page its senses, the one that failed, if one did, and the leave.
use Rattle.std.specs.Prelude.{ℕ, ◌≡◌, ◌/◌, ◌⊎◌, Bool, IsTrue, List, ◌∷◌, length, Some, ℤ}
use Rattle.ssd_geo.specs.Coding.{coding_of}
use Rattle.ssd_geo.specs.declared.entry.Entry.{Entry}
use Rattle.ssd_geo.specs.declared.kind.Kind.{Kind}
use Rattle.ssd_geo.specs.declared.place.Place.{Place}
use Rattle.ssd_geo.specs.declared.reply.RefreshReply.{RefreshReply}
use Rattle.ssd_geo.specs.declared.reply.Reply.{Reply}
use Rattle.ssd_geo.specs.declared.slot.Slot.{Slot}
use Rattle.ssd_geo.specs.declared.tag.Tag.{Tag}
use Rattle.ssd_geo.specs.declared.trace.Verb.{Verb}
use Rattle.ssd_histories.specs.CallsInOrder.{is_age_of}
use Rattle.ssd_histories.specs.CallSteps.{CallStep}
use Rattle.ssd_histories.specs.PastPages.{ladder_of}
use Rattle.ssd_histories.specs.Copies.{IsRefresh}
use Rattle.ssd_histories.specs.Replies.{collect_reply, is_die_fault, refresh_reply, reply_of_refresh, single_decided, write_reply}
use Rattle.ssd_histories.specs.Rounds.{has_fault}
use Rattle.ssd_histories.specs.SerialCalls.{AreStepsFrom, SerialCollect, SerialWrite, entry_of}
use Rattle.ssd_histories.specs.ServedCalls.{HasFoundNone, HasReadPage, after_sensing, after_trim}
use Rattle.ssd_histories.specs.Start.{Start}

-- a write of a row was made, with its rounds, and its steps decide the reply
pub record HasWritten (start : Start) (contents : List (Tag × List ℕ)) (tag : Tag) (row : ℕ) (before after : List Entry)
    (reply : Reply) : Type 0 where
  pub is_write : SerialWrite (ladder_of (coding_of start.base) start contents) start.base tag row before after
  pub steps : List CallStep
  pub are_steps : AreStepsFrom tag before steps after
  pub reply_is : write_reply steps ≡ Some reply

-- so was a collect
pub record HasCollected (start : Start) (contents : List (Tag × List ℕ)) (tag : Tag) (before after : List Entry)
    (reply : Reply) : Type 0 where
  pub is_collect : SerialCollect (ladder_of (coding_of start.base) start contents) start.base tag before after
  pub steps : List CallStep
  pub are_steps : AreStepsFrom tag before steps after
  pub reply_is : collect_reply steps ≡ reply

-- a row was refreshed, and the steps decide the reply; a die's call failed in them just where the reply says so
pub record WasRefreshed (start : Start) (contents : List (Tag × List ℕ)) (tag : Tag) (row : ℕ) (before after : List Entry)
    (reply : RefreshReply) : Type 0 where
  pub steps : List CallStep
  pub are_steps : AreStepsFrom tag before steps after
  pub is_refresh : IsRefresh (ladder_of (coding_of start.base) start contents) row steps
  pub reply_is : refresh_reply (ladder_of (coding_of start.base) start contents) steps ≡ Some reply
  pub fault_is : has_fault steps ≡ is_die_fault reply

-- a call that refreshes a row was replied to
pub record HasRefreshed (start : Start) (contents : List (Tag × List ℕ)) (tag : Tag) (row : ℕ) (before after : List Entry)
    (reply : Reply) : Type 0 where
  pub told : RefreshReply
  pub was_refreshed : WasRefreshed start contents tag row before after told
  pub reply_is : reply ≡ reply_of_refresh told

-- the past after a look, its senses, one more that failed, and the leave
abbrev pub after_failed_sense : Tag → ℕ → Slot → ℕ → Bool → List (Place × ℤ) → Place → ℤ → List Entry → List Entry
after_failed_sense tag row slot serial closed senses place level past =
    entry_of tag (Kind.FaultSense (length past) place level) ∷ after_sensing tag row slot serial closed senses past

-- a read found a page and a sense of it failed, so that it left
pub record HasFailedRead (tag : Tag) (row : ℕ) (before after : List Entry) (reply : Reply) : Type 0 where
  pub slot : Slot
  pub serial : ℕ
  pub closed : Bool
  pub senses : List (Place × ℤ)
  pub place : Place
  pub level : ℤ
  pub reply_is : reply ≡ Reply.DieFault place.die
  pub after_is :
      after
      ≡ entry_of tag (Kind.Leave (length before))
      ∷ after_failed_sense tag row slot serial closed senses place level before

-- a block was aged, or the die's call for that failed
pub record HasAged (tag : Tag) (die sb amount : ℕ) (before after : List Entry) (reply : Reply) : Type 0 where
  pub last : Kind
  pub is_age : IsTrue (is_age_of die sb amount last)
  pub reply_is : single_decided last ≡ Some reply
  pub after_is : after ≡ entry_of tag last ∷ before

-- a call of a verb was replied to so, and led a channel from one past to another. With C channels page x is row x / C.
abbrev pub IsRepliedBy : Start → List (Tag × List ℕ) → ℕ → Tag → Verb → Reply → List Entry → List Entry → Type 0
IsRepliedBy start contents channels tag (Verb.Write page content) reply before after =
    HasWritten start contents tag (page / channels) before after reply
IsRepliedBy start contents channels tag (Verb.Read page) reply before after =
    HasFoundNone tag (page / channels) before after reply
    ⊎ (HasReadPage start contents tag (page / channels) before after reply
    ⊎ HasFailedRead tag (page / channels) before after reply)
IsRepliedBy start contents channels tag (Verb.Trim page) reply before after =
    (reply ≡ Reply.Ok) × (after ≡ after_trim tag (page / channels) before)
IsRepliedBy start contents channels tag (Verb.Age channel die sb amount) reply before after =
    HasAged tag die sb amount before after reply
IsRepliedBy start contents channels tag (Verb.Refresh page) reply before after =
    HasRefreshed start contents tag (page / channels) before after reply
IsRepliedBy start contents channels tag (Verb.Collect channel) reply before after =
    HasCollected start contents tag before after reply
IsRepliedBy start contents channels tag (Verb.Drain count) reply before after = ⊥
