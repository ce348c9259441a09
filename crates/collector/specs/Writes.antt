-- What does a write come to that makes room for itself? It is tried; after a program that answered FAIL it is tried again, and
-- where it needs room it makes a round first. It ends where it was written or refused, or a die's call failed.
use Rattle.std.specs.Prelude.{ℕ, ◌≡◌, ◌⊎◌, List, Option, Some, None, Result, Ok, Err}
use Rattle.chan_calls.specs.Caller.{CallerView, HasStepRoom, IsOf}
use Rattle.chan_calls.specs.Stepping.{IsStepped, MakesWrite, Standing}
use Rattle.chan_calls.specs.Workers.{MayCall, WorkerState, WorksFor}
use Rattle.chan_state.specs.declared.answers.WriteAnswer.{WriteAnswer}
use Rattle.chan_state.specs.declared.answers.WriteAnswer.TheVariants as write
use Rattle.ssd_geo.specs.declared.base.ChannelBase.{ChannelBase}
use Rattle.ssd_geo.specs.declared.entry.Entry.{Entry}
use Rattle.ssd_geo.specs.declared.stop.StepStop.{StepStop}
use Rattle.ssd_geo.specs.declared.tag.Tag.{Tag}
use Rattle.ssd_histories.specs.Start.{Start, data_of}
use Rattle.collector.specs.Emptying.{OfBase, having_seen}
use Rattle.collector.specs.Rounds.{MakesRoundFor}
use Rattle.collector.specs.declared.replies.RoundReply.{RoundReply}
use Rattle.collector.specs.declared.replies.RoundReply.TheVariants as round
use Rattle.collector.specs.declared.replies.WriteReply.{WriteReply}
use Rattle.collector.specs.declared.replies.WriteReply.TheVariants.{DieFault, Full, ReadOnly, Written}

-- a word of a row was to be written
abbrev pub IsToWrite : ChannelBase → CallerView → Tag → ℕ → List Entry → List Entry → Result WriteAnswer StepStop → Type 0
IsToWrite base caller tag row before after result =
    IsStepped HasStepRoom (MakesWrite (OfBase base) tag row) tag (having_seen caller before) (having_seen caller after) result

-- the reply of a write that a step ends, if it ends it
abbrev pub reply_of_write : WriteAnswer → Option WriteReply
reply_of_write (write.Written slot) = Some Written
reply_of_write (write.Failed sb) = None
reply_of_write (write.DieFault die) = Some (DieFault die)
reply_of_write write.ReadOnly = Some ReadOnly
reply_of_write write.Full = Some Full
reply_of_write write.NeedRoom = None

-- the reply of one that a round ends: a die's call failed in it
abbrev pub reply_of_round : RoundReply → Option WriteReply
reply_of_round (round.Erased sb) = None
reply_of_round (round.Retired sb) = None
reply_of_round (round.DieFault die) = Some (DieFault die)
reply_of_round round.Left = None

-- a write needed room, and made a round
pub record HasMadeRoom (start : Start) (contents : List (Tag × List ℕ)) (caller : CallerView) (tag : Tag) (row : ℕ)
    (before after : List Entry) (result : Result RoundReply StepStop) : Type 0 where
  pub needed : List Entry
  pub tried : IsToWrite start.base caller tag row before needed (Ok write.NeedRoom)
  pub round : MakesRoundFor start contents caller tag needed after result

-- one turn of a write, after which it goes on, and one that ends it
pub data WritesOn (start : Start) (contents : List (Tag × List ℕ)) (caller : CallerView) (tag : Tag) (row : ℕ)
    (before after : List Entry) : Type 0 where
  by_fail : (sb : ℕ) → IsToWrite start.base caller tag row before after (Ok (write.Failed sb))
      → WritesOn start contents caller tag row before after
  by_room : (reply : RoundReply) → HasMadeRoom start contents caller tag row before after (Ok reply)
      → reply_of_round reply ≡ None → WritesOn start contents caller tag row before after

pub data EndsWrite (start : Start) (contents : List (Tag × List ℕ)) (caller : CallerView) (tag : Tag) (row : ℕ)
    (before after : List Entry) (reply : WriteReply) : Type 0 where
  by_write : (answer : WriteAnswer) → IsToWrite start.base caller tag row before after (Ok answer)
      → reply_of_write answer ≡ Some reply → EndsWrite start contents caller tag row before after reply
  by_round : (ended : RoundReply) → HasMadeRoom start contents caller tag row before after (Ok ended)
      → reply_of_round ended ≡ Some reply → EndsWrite start contents caller tag row before after reply

-- one turn: the write goes on, or ends, or a step is refused
abbrev pub TurnsWriteFor : Start → List (Tag × List ℕ) → CallerView → Tag → ℕ → List Entry → List Entry →
    Result (Option WriteReply) StepStop → Type 0
TurnsWriteFor start contents caller tag row before after (Ok None) = WritesOn start contents caller tag row before after
TurnsWriteFor start contents caller tag row before after (Ok (Some reply)) =
    EndsWrite start contents caller tag row before after reply
TurnsWriteFor start contents caller tag row before after (Err stop) =
    IsToWrite start.base caller tag row before after (Err stop)
    ⊎ HasMadeRoom start contents caller tag row before after (Err stop)

-- turns one after the other, after each of which the write went on
pub data WritesOften (start : Start) (contents : List (Tag × List ℕ)) (caller : CallerView) (tag : Tag) (row : ℕ)
    (before : List Entry) : List Entry → Type 0 where
  none_yet : WritesOften start contents caller tag row before before
  one_more : {between after : List Entry} → WritesOften start contents caller tag row before between
      → WritesOn start contents caller tag row between after → WritesOften start contents caller tag row before after

-- the last turn of a write, as a turn
abbrev pub last_try : Result WriteReply StepStop → Result (Option WriteReply) StepStop
last_try (Ok reply) = Ok (Some reply)
last_try (Err stop) = Err stop

-- a write: turns after which it went on, and the last one
pub record MakesWriteFor (start : Start) (contents : List (Tag × List ℕ)) (caller : CallerView) (tag : Tag) (row : ℕ)
    (before after : List Entry) (result : Result WriteReply StepStop) : Type 0 where
  pub between : List Entry
  pub turns : WritesOften start contents caller tag row before between
  pub last : TurnsWriteFor start contents caller tag row between after (last_try result)

-- a worker may make a write of these data: the channel stands for some start, with them as the data of the call
pub record MayWrite (worker : WorkerState) (caller : CallerView) (stands : Standing) (tag : Tag) (data_bytes : List ℕ)
    : Type 0 where
  pub may : MayCall worker caller stands
  pub own_data : data_of may.contents tag ≡ data_bytes

-- a fact holds of each start and contents for which the worker works and the channel stood, with these data of the call
abbrev pub OfEachWith : WorkerState → CallerView → Standing → Tag → List ℕ → (Start → List (Tag × List ℕ) → Type 0) → Type 0
OfEachWith worker old stood tag data_bytes fact =
    (start : Start) (contents : List (Tag × List ℕ)) → WorksFor worker start → IsOf old start contents →
    stood start contents → data_of contents tag ≡ data_bytes → fact start contents

abbrev pub TurnsWrite : WorkerState → CallerView → Standing → Tag → ℕ → List ℕ → List Entry →
    Result (Option WriteReply) StepStop → Type 0
TurnsWrite worker old stood tag row data_bytes new result =
    OfEachWith worker old stood tag data_bytes
    (λ start contents. TurnsWriteFor start contents old tag row old.seen new result)

abbrev pub WritesRow : WorkerState → CallerView → Standing → Tag → ℕ → List ℕ → List Entry →
    Result WriteReply StepStop → Type 0
WritesRow worker old stood tag row data_bytes new result =
    OfEachWith worker old stood tag data_bytes
    (λ start contents. MakesWriteFor start contents old tag row old.seen new result)
