-- What do a whole read and a write of a caller come to? A read adds a look, and where that found a
-- page the senses that its ladder asks for and the leave; its reply is the ladder's answer, or the
-- die that failed in a sense. Each fact is of a start and contents for which the worker works and the
-- channel stood.
use Rattle.std.specs.Prelude.{ℕ, ◌≡◌, ◌⊎◌, Bool, List, ◌∷◌, length, map, ℤ, None, Some, Result, Ok, Err, ⊤}
use Rattle.ssd_histories.specs.CallSteps.{CallStep}
use Rattle.ssd_histories.specs.Copies.{IsRead}
use Rattle.ssd_histories.specs.ServedCalls.{after_lone_look, after_look, reply_to_none}
use Rattle.ssd_geo.specs.Coding.{coding_of}
use Rattle.ssd_histories.specs.PastPages.{ladder_of}
use Rattle.ssd_histories.specs.Replies.{read_reply, reply_of_ladder}
use Rattle.ssd_histories.specs.SerialCalls.{AreStepsFrom, entry_of}
use Rattle.ssd_histories.specs.Start.{Start, data_of}
use Rattle.ssd_geo.specs.declared.entry.Entry.{Entry}
use Rattle.ssd_geo.specs.declared.kind.Kind.{Kind}
use Rattle.ssd_geo.specs.declared.place.Place.{Place}
use Rattle.ssd_geo.specs.declared.reply.Reply.{Reply}
use Rattle.ssd_geo.specs.declared.row.Row.{Row}
use Rattle.ssd_geo.specs.declared.slot.Slot.{Slot}
use Rattle.ssd_geo.specs.declared.stop.StepStop.{StepStop}
use Rattle.ssd_geo.specs.declared.tag.Tag.{Tag}
use Rattle.chan_calls.specs.Caller.{AddsKinds, CallerView, Comes, IsOf}
use Rattle.chan_calls.specs.Stepping.{Standing}
use Rattle.chan_calls.specs.Workers.{WorkerState, WorksFor}
use Rattle.chan_calls.specs.declared.read_reply.ReadReply.{ReadReply}
use Rattle.chan_calls.specs.declared.read_reply.ReadReply.TheVariants.{Bytes, DieFault, Empty, Uncorrectable}

-- the reply that a read's answer stands for, with the worker's data
abbrev pub reply_of : ReadReply → List ℕ → Reply
reply_of (Bytes rung) data_bytes = Reply.Data rung data_bytes
reply_of Empty data_bytes = Reply.Empty
reply_of Uncorrectable data_bytes = Reply.Uncorrectable
reply_of (DieFault die) data_bytes = Reply.DieFault die

-- the entries of senses
abbrev pub sense_kinds : ℕ → List (Place × ℤ) → List Kind
sense_kinds at senses = map (λ sensed. Kind.Sense at sensed.0 sensed.1) senses

-- the senses that were made for a look since a past, one after the other
pub record HasSenses (caller : CallerView) (tag : Tag) (at : ℕ) (before : List Entry) : Type 0 where
  pub senses : List (Place × ℤ)
  pub after : List Entry
  pub are_senses : AddsKinds caller tag (sense_kinds at senses) before after

-- a look was left
pub record IsLeft (caller : CallerView) (tag : Tag) (at : ℕ) (before new : List Entry)
    : Type 0 where
  pub at_leave : List Entry
  pub comes : Comes (record caller { seen = before }) tag at_leave
  pub new_is : new ≡ entry_of tag (Kind.Leave at) ∷ at_leave

-- a die failed in a sense of a look, which was left
pub record HasFailed (caller : CallerView) (tag : Tag) (at : ℕ) (before new : List Entry) (die : ℕ)
    : Type 0 where
  pub place : Place
  pub level : ℤ
  pub at_sense : List Entry
  pub comes : Comes (record caller { seen = before }) tag at_sense
  pub die_is : die ≡ place.die
  pub leaves : IsLeft caller tag at (entry_of tag (Kind.FaultSense at place level) ∷ at_sense) new

-- a read found no page
pub record HasFoundNone (caller : CallerView) (tag : Tag) (row : ℕ) (new : List Entry)
    (reply : Reply) : Type 0 where
  pub at_look : List Entry
  pub comes : Comes caller tag at_look
  pub found : Row
  pub reply_is : reply_to_none found ≡ Some reply
  pub new_is : new ≡ after_lone_look tag row found at_look

-- a read found a page: its look and the senses
pub record HasLooked (caller : CallerView) (tag : Tag) (row : ℕ) : Type 0 where
  pub at_look : List Entry
  pub comes : Comes caller tag at_look
  pub slot : Slot
  pub serial : ℕ
  pub closed : Bool
  pub senses : HasSenses caller tag (length at_look) (after_look tag row slot serial closed at_look)

-- a read found a page, and gave the answer of the ladder over its senses
pub record HasReadPage (start : Start) (contents : List (Tag × List ℕ)) (caller : CallerView)
    (tag : Tag) (row : ℕ) (new : List Entry) (reply : Reply) : Type 0 where
  pub look : HasLooked caller tag row
  pub leaves : IsLeft caller tag (length look.at_look) look.senses.after new
  pub reply_is :
      reply_of_ladder start.base.shape.bytes
      (ladder_of (coding_of start.base) start contents leaves.at_leave (length look.at_look))
      ≡ Some reply

-- a read found a page, and a die failed in a sense
pub record HasReadFailed (caller : CallerView) (tag : Tag) (row : ℕ) (new : List Entry)
    (reply : Reply) : Type 0 where
  pub look : HasLooked caller tag row
  pub die : ℕ
  pub fails : HasFailed caller tag (length look.at_look) look.senses.after new die
  pub reply_is : reply ≡ Reply.DieFault die

-- a read gave this reply, for one start and contents
abbrev pub ReadsFor : Start → List (Tag × List ℕ) → CallerView → Tag → ℕ → List Entry → Reply →
    Type 0
ReadsFor start contents caller tag row new reply =
    HasFoundNone caller tag row new reply ⊎ HasReadPage start contents caller tag row new reply
    ⊎ HasReadFailed caller tag row new reply

-- and so whatever the worker works for and the channel stood for
abbrev pub ReadsRow : WorkerState → CallerView → Standing → Tag → ℕ → List Entry → Reply → Type 0
ReadsRow worker old stood tag row new reply =
    (start : Start) (contents : List (Tag × List ℕ)) → WorksFor worker start →
    IsOf old start contents → stood start contents → ReadsFor start contents old tag row new reply

-- the data of the page before stay where a read was refused or found a row without a page: no ladder
-- has begun since
abbrev pub KeepsData : WorkerState → WorkerState → Result ReadReply StepStop → Type 0
KeepsData old new (Ok (Bytes rung)) = ⊤
KeepsData old new (Ok Empty) = new.data_bytes ≡ old.data_bytes
KeepsData old new (Ok Uncorrectable) = ⊤
KeepsData old new (Ok (DieFault die)) = ⊤
KeepsData old new (Err stop) = new.data_bytes ≡ old.data_bytes

-- what a channel stood for it stands for after a call of the worker
abbrev pub GoesOnFor : WorkerState → CallerView → CallerView → Standing → Standing → Type 0
GoesOnFor worker old new stood stands =
    (start : Start) (contents : List (Tag × List ℕ)) → WorksFor worker start →
    IsOf old start contents → stood start contents →
    IsOf new start contents × stands start contents

-- so after a write, where the data are those of the call
abbrev pub WritesData : WorkerState → CallerView → CallerView → Standing → Standing → Tag → List ℕ →
    Type 0
WritesData worker old new stood stands tag data_bytes =
    (start : Start) (contents : List (Tag × List ℕ)) → WorksFor worker start →
    IsOf old start contents → stood start contents →
    data_of contents tag ≡ data_bytes →
    IsOf new start contents × stands start contents

-- the steps that a call made from one past to another are a read of a row, which has this reply
pub record IsReadBy (start : Start) (contents : List (Tag × List ℕ)) (tag : Tag) (row : ℕ)
    (before after : List Entry) (reply : Reply) : Type 0 where
  pub steps : List CallStep
  pub are_steps : AreStepsFrom tag before steps after
  pub is_read : IsRead (ladder_of (coding_of start.base) start contents) row steps
  pub reply_is :
      read_reply start.base.shape.bytes (ladder_of (coding_of start.base) start contents) steps
      ≡ Some reply

-- A law, the contract of a function without a body: what a caller that is alone reads is read by
-- steps that stand together.
abbrev pub ReadsAloneAreReads : Type 0
ReadsAloneAreReads =
    (start : Start) (contents : List (Tag × List ℕ)) (caller : CallerView) (tag : Tag) (row : ℕ)
    (new : List Entry) (reply : Reply) →
    caller.number ≡ None → ReadsFor start contents caller tag row new reply →
    IsReadBy start contents tag row caller.seen new reply
