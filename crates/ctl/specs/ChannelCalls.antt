-- What comes of a call of a trace, or of a refresh, on its channel? Whatever the channel stood for, with the data of the call,
-- it stands for after the call. The call was replied to; or the history had no room for its next entry; or memory was refused.
use Rattle.std.specs.Prelude.{ℕ, ◌≡◌, false, true, List, [], length, Result, Ok, Err, ⊤}
use Rattle.chan_calls.specs.Workers.{WorkerState, WorksFor}
use Rattle.ctl.specs.Asked.{HasOwnData}
use Rattle.ctl.specs.BrokenOff.{IsBrokenOffBy}
use Rattle.ctl.specs.Seen.{SeenChannel, Stands}
use Rattle.run_laws.specs.RepliedCalls.{IsRepliedBy, WasRefreshed}
use Rattle.run_laws.specs.StoppedRuns.{HaveFoundRoom, IsStoppedBy}
use Rattle.ssd_geo.specs.declared.reply.RefreshReply.{RefreshReply}
use Rattle.ssd_geo.specs.declared.reply.Reply.{Reply}
use Rattle.ssd_geo.specs.declared.stop.ServeStop.{ServeStop}
use Rattle.ssd_geo.specs.declared.stop.StepStop.{StepStop}
use Rattle.ssd_geo.specs.declared.tag.Tag.{Tag}
use Rattle.ssd_geo.specs.declared.trace.Verb.{Verb}
use Rattle.ssd_histories.specs.History.{open_looks}
use Rattle.ssd_histories.specs.HistoryRoom.{found_room, has_look_room}
use Rattle.ssd_histories.specs.Start.{Start}

-- a channel stands for a start for which a worker works, with the data of a call, and no look is open
pub record MayServeOn (worker : WorkerState) (channel : SeenChannel) (tag : Tag) (verb : Verb) : Type 0 where
  pub start : Start
  pub contents : List (Tag × List ℕ)
  pub works : WorksFor worker start
  pub stands : Stands channel start contents
  pub own_data : HasOwnData worker.shape.bytes tag verb contents
  pub none_open : open_looks channel.kept.past ≡ []

-- what a channel stood for, with the data of a call, it stands for, and this holds of it
abbrev pub ForEach : WorkerState → Tag → Verb → SeenChannel → SeenChannel → (Start → List (Tag × List ℕ) → Type 0) → Type 0
ForEach worker tag verb old new fact =
    (start : Start) (contents : List (Tag × List ℕ)) → WorksFor worker start → Stands old start contents →
    HasOwnData worker.shape.bytes tag verb contents → Stands new start contents × fact start contents

-- a call was served on one of so many channels, whose history had room for it
pub record IsServedOn (worker : WorkerState) (channels : ℕ) (old new : SeenChannel) (tag : Tag) (verb : Verb) (reply : Reply)
    : Type 0 where
  pub rooms : HaveFoundRoom old.kept.limit old.kept.past new.kept.past verb
  pub replied :
      ForEach worker tag verb old new
      (λ start contents. IsRepliedBy start contents channels tag verb reply old.kept.past new.kept.past)

-- a call's next entry found no room in the history, which has so many entries, each of which found room
pub record IsFullFor (worker : WorkerState) (channels : ℕ) (old new : SeenChannel) (tag : Tag) (verb : Verb) (entries : ℕ)
    : Type 0 where
  pub rooms : found_room old.kept.limit old.kept.past ≡ true → found_room old.kept.limit new.kept.past ≡ true
  pub stopped :
      ForEach worker tag verb old new
      (λ start contents. IsStoppedBy start contents channels tag verb old.kept.past new.kept.past)
  pub entries_are : entries ≡ length new.kept.past

-- how a call ended on its channel
abbrev pub EndsOn : WorkerState → ℕ → SeenChannel → SeenChannel → Tag → Verb → Result Reply StepStop → Type 0
EndsOn worker channels old new tag verb (Ok reply) = IsServedOn worker channels old new tag verb reply
EndsOn worker channels old new tag verb (Err (StepStop.HistoryFull told)) =
    IsFullFor worker channels old new tag verb told
EndsOn worker channels old new tag verb (Err StepStop.Memory) =
    ForEach worker tag verb old new
    (λ start contents. IsBrokenOffBy start contents channels tag verb old.kept.past new.kept.past)

-- a channel stands for a start for which a worker works
pub record MayRefreshOn (worker : WorkerState) (channel : SeenChannel) : Type 0 where
  pub start : Start
  pub contents : List (Tag × List ℕ)
  pub works : WorksFor worker start
  pub stands : Stands channel start contents

-- what a channel stood for it stands for, and this holds of it
abbrev pub ForEachStart : WorkerState → SeenChannel → SeenChannel → (Start → List (Tag × List ℕ) → Type 0) → Type 0
ForEachStart worker old new fact =
    (start : Start) (contents : List (Tag × List ℕ)) → WorksFor worker start → Stands old start contents →
    Stands new start contents × fact start contents

-- a row of a channel was refreshed, whose history had room for its look
pub record IsRefreshedOn (worker : WorkerState) (old new : SeenChannel) (tag : Tag) (row : ℕ) (reply : RefreshReply)
    : Type 0 where
  pub has_room : has_look_room old.kept.limit old.kept.past ≡ true
  pub refreshed :
      ForEachStart worker old new (λ start contents. WasRefreshed start contents tag row old.kept.past new.kept.past reply)

-- the look of a refresh found no room in the history, which has so many entries
pub record HasNoRoomOn (worker : WorkerState) (old new : SeenChannel) (entries : ℕ) : Type 0 where
  pub past_stays : new.kept.past ≡ old.kept.past
  pub no_room : has_look_room old.kept.limit old.kept.past ≡ false
  pub entries_are : entries ≡ length old.kept.past
  pub stands : ForEachStart worker old new (λ start contents. ⊤)

-- memory was refused to the look of a refresh
pub record IsRefusedOn (worker : WorkerState) (old new : SeenChannel) : Type 0 where
  pub past_stays : new.kept.past ≡ old.kept.past
  pub stands : ForEachStart worker old new (λ start contents. ⊤)

-- how a refresh ended on its channel
abbrev pub RefreshEndsOn : WorkerState → SeenChannel → SeenChannel → Tag → ℕ → Result RefreshReply StepStop → Type 0
RefreshEndsOn worker old new tag row (Ok reply) = IsRefreshedOn worker old new tag row reply
RefreshEndsOn worker old new tag row (Err (StepStop.HistoryFull told)) = HasNoRoomOn worker old new told
RefreshEndsOn worker old new tag row (Err StepStop.Memory) = IsRefusedOn worker old new

-- why a call on this channel was not served to its end
abbrev pub stop_on : ℕ → StepStop → ServeStop
stop_on channel (StepStop.HistoryFull told) = ServeStop.HistoryFull channel told
stop_on channel StepStop.Memory = ServeStop.Memory
