-- What comes of a call that a caller makes who is alone on a channel? It finds the past that it has seen. A write and a collect
-- come to their end with the rounds that they make, or are cut where the history has no room for their next entry, or are broken
-- off where memory is refused. What the channel stood for, with the data of the call, it goes on standing for.
use Rattle.std.specs.Prelude.{ℕ, ◌≡◌, ◌⊎◌, true, List, length, Result, Ok, Err, ⊤}
use Rattle.ssd_geo.specs.declared.reply.RefreshReply.{RefreshReply}
use Rattle.ssd_geo.specs.declared.reply.Reply.{Reply}
use Rattle.ssd_geo.specs.declared.stop.StepStop.{StepStop}
use Rattle.ssd_geo.specs.declared.tag.Tag.{Tag}
use Rattle.ssd_histories.specs.HistoryRoom.{found_room}
use Rattle.ssd_histories.specs.ServedCalls.{HasFoundNone, HasReadPage}
use Rattle.ssd_histories.specs.Start.{Start}
use Rattle.run_laws.specs.RepliedCalls.{HasCollected, HasFailedRead, HasWritten, WasRefreshed}
use Rattle.chan_calls.specs.Caller.{CallerView, IsOf}
use Rattle.chan_calls.specs.Stepping.{Standing}
use Rattle.chan_calls.specs.Workers.{WorkerState, WorksFor}
use Rattle.collector.specs.Emptying.{OfEach}
use Rattle.collector.specs.Stops.{IsBrokenOffCollectAlone, IsBrokenOffWriteAlone, IsCutCollectAlone, IsCutWriteAlone}
use Rattle.collector.specs.Writes.{OfEachWith}

-- each entry that a call made found room, where each entry before it did
abbrev pub FindsRoom : CallerView → CallerView → Type 0
FindsRoom old new = found_room old.limit old.seen ≡ true → found_room old.limit new.seen ≡ true

-- how a write of a row ended, for one start and contents: it was made whole and has a reply; or it was cut, since the history,
-- of the length that was told, had no room for its next entry; or it was broken off
abbrev pub EndsWriteFor : Start → List (Tag × List ℕ) → CallerView → CallerView → Tag → ℕ → Result Reply StepStop → Type 0
EndsWriteFor start contents old new tag row (Ok reply) = HasWritten start contents tag row old.seen new.seen reply
EndsWriteFor start contents old new tag row (Err (StepStop.HistoryFull told)) =
    IsCutWriteAlone start contents tag row told old.seen new.seen
EndsWriteFor start contents old new tag row (Err StepStop.Memory) =
    IsBrokenOffWriteAlone start contents tag row old.seen new.seen

abbrev pub EndsWrite : WorkerState → CallerView → CallerView → Standing → Tag → ℕ → List ℕ → Result Reply StepStop → Type 0
EndsWrite worker old new stood tag row data_bytes result =
    OfEachWith worker old stood tag data_bytes (λ start contents. EndsWriteFor start contents old new tag row result)

-- and how a collect did
abbrev pub EndsCollectFor : Start → List (Tag × List ℕ) → CallerView → CallerView → Tag → Result Reply StepStop → Type 0
EndsCollectFor start contents old new tag (Ok reply) = HasCollected start contents tag old.seen new.seen reply
EndsCollectFor start contents old new tag (Err (StepStop.HistoryFull told)) =
    IsCutCollectAlone start contents tag told old.seen new.seen
EndsCollectFor start contents old new tag (Err StepStop.Memory) =
    IsBrokenOffCollectAlone start contents tag old.seen new.seen

abbrev pub EndsCollect : WorkerState → CallerView → CallerView → Standing → Tag → Result Reply StepStop → Type 0
EndsCollect worker old new stood tag result =
    OfEach worker old stood (λ start contents. EndsCollectFor start contents old new tag result)

-- a call that makes one entry, or a look, found no room for it: nothing changed but what stands
pub record FindsNoRoom (old new : CallerView) (has_room : Type 0) (told : ℕ) : Type 0 where
  pub seen_stays : new.seen ≡ old.seen
  pub no_room : ¬ has_room
  pub told_is : told ≡ length old.seen

abbrev pub IfNoRoom : {A : Type 0} → CallerView → CallerView → Type 0 → Result A StepStop → Type 0
IfNoRoom old new has_room (Ok answer) = has_room
IfNoRoom old new has_room (Err (StepStop.HistoryFull told)) = FindsNoRoom old new has_room told
IfNoRoom old new has_room (Err StepStop.Memory) = ⊤

-- this holds where memory was refused
abbrev pub OnMemory : {A : Type 0} → Result A StepStop → Type 0 → Type 0
OnMemory (Ok answer) fact = ⊤
OnMemory (Err (StepStop.HistoryFull told)) fact = ⊤
OnMemory (Err StepStop.Memory) fact = fact

-- a read gave a reply, whatever the worker works for and the channel stood for
abbrev pub RepliesRead : WorkerState → CallerView → CallerView → Standing → Tag → ℕ → Reply → Type 0
RepliesRead worker old new stood tag row reply =
    (start : Start) (contents : List (Tag × List ℕ)) → WorksFor worker start → IsOf old start contents →
    stood start contents →
    HasFoundNone tag row old.seen new.seen reply
    ⊎ (HasReadPage start contents tag row old.seen new.seen reply ⊎ HasFailedRead tag row old.seen new.seen reply)

-- memory was refused to a read before its look; or after its leave, so that it has a reply which wasn't given
abbrev pub BreaksOffRead : WorkerState → CallerView → CallerView → Standing → Tag → ℕ → Type 0
BreaksOffRead worker old new stood tag row =
    (new.seen ≡ old.seen) ⊎ (reply : Reply) × RepliesRead worker old new stood tag row reply

-- a refresh gave a reply so
abbrev pub RepliesRefresh : WorkerState → CallerView → CallerView → Standing → Tag → ℕ → RefreshReply → Type 0
RepliesRefresh worker old new stood tag row reply =
    OfEach worker old stood (λ start contents. WasRefreshed start contents tag row old.seen new.seen reply)
