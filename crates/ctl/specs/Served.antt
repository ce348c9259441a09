-- What comes of a call of a trace? Whatever the channels stood for, with the data of the call, they stand for after it. The
-- call was served with its reply, or stopped where the history of a channel had no room for its next entry, or was broken off
-- where memory was refused.
use Rattle.std.specs.Prelude.{ℕ, ◌≡◌, ◌≤◌, true, List, [], length, slice_get, Result, Ok, Err, Some}
use Rattle.chan_calls.specs.Workers.{WorkerState, WorksFor}
use Rattle.ctl.specs.Asked.{FitsDrive, HasOwnData, HintsFit}
use Rattle.ctl.specs.BrokenOff.{IsBrokenOffCall}
use Rattle.ctl.specs.Seen.{SeenChannel, Stands, pasts_of}
use Rattle.run_laws.specs.ServedRuns.{IsServedCall}
use Rattle.run_laws.specs.StoppedRuns.{IsStoppedCall}
use Rattle.ssd_geo.specs.declared.reply.Reply.{Reply}
use Rattle.ssd_geo.specs.declared.stop.ServeStop.{ServeStop}
use Rattle.ssd_geo.specs.declared.tag.Tag.{Tag}
use Rattle.ssd_geo.specs.declared.trace.TraceCall.{TraceCall}
use Rattle.ssd_histories.specs.History.{open_looks}
use Rattle.ssd_histories.specs.HistoryRoom.{found_room}
use Rattle.ssd_histories.specs.Start.{Start}

-- the worker works for each of some starts, and each channel stands for the start of its number and these contents
pub record AreStanding (worker : WorkerState) (channels : List SeenChannel) (starts : List Start)
    (contents : List (Tag × List ℕ)) : Type 0 where
  pub as_many : length channels ≡ length starts
  pub works : (n : ℕ) (start : Start) → slice_get starts n ≡ Some start → WorksFor worker start
  pub stand : (n : ℕ) (start : Start) (channel : SeenChannel) → slice_get starts n ≡ Some start →
      slice_get channels n ≡ Some channel → Stands channel start contents

-- a call may be served: the channels, at most eight, stand for some starts, with the call's data, and no look is open; what the
-- call asks for and each page of the hints fits the drive
pub record MayServe (worker : WorkerState) (channels : List SeenChannel) (hints : List ℕ) (call : TraceCall) : Type 0 where
  pub starts : List Start
  pub contents : List (Tag × List ℕ)
  pub standing : AreStanding worker channels starts contents
  pub own_data : HasOwnData worker.shape.bytes call.tag call.verb contents
  pub none_open : (n : ℕ) (channel : SeenChannel) → slice_get channels n ≡ Some channel → open_looks channel.kept.past ≡ []
  pub some_channel : 1 ≤ length channels
  pub few_channels : length channels ≤ 8
  pub fits : FitsDrive worker.shape (length channels) call.verb
  pub hints_fit : HintsFit worker.shape (length channels) hints

-- the limit of a channel's history stays; where each entry of the past found room, and the past was no longer than the limit,
-- so it is after
pub record KeepsRoom (old new : SeenChannel) : Type 0 where
  pub limit_stays : new.kept.limit ≡ old.kept.limit
  pub has_room : found_room old.kept.limit old.kept.past ≡ true → length old.kept.past ≤ old.kept.limit →
      (found_room old.kept.limit new.kept.past ≡ true) × (length new.kept.past ≤ old.kept.limit)

-- and so for each channel
pub record KeepRooms (olds news : List SeenChannel) : Type 0 where
  pub as_many : length news ≡ length olds
  pub each : (n : ℕ) (old new : SeenChannel) → slice_get olds n ≡ Some old → slice_get news n ≡ Some new → KeepsRoom old new

-- what the channels stood for, with the data of a call, they stand for, and this holds of it
abbrev pub OfEachStanding : WorkerState → List SeenChannel → List SeenChannel → TraceCall →
    (List Start → List (Tag × List ℕ) → Type 0) → Type 0
OfEachStanding worker olds news call fact =
    (starts : List Start) (contents : List (Tag × List ℕ)) → AreStanding worker olds starts contents →
    HasOwnData worker.shape.bytes call.tag call.verb contents → AreStanding worker news starts contents × fact starts contents

-- a call was served with this reply; hints that fit the drive stay so
pub record IsServed (worker : WorkerState) (olds news : List SeenChannel) (hints left : List ℕ) (call : TraceCall)
    (reply : Reply) : Type 0 where
  pub rooms : KeepRooms olds news
  pub hints_fit : HintsFit worker.shape (length olds) hints → HintsFit worker.shape (length olds) left
  pub served :
      OfEachStanding worker olds news call
      (λ starts contents. IsServedCall contents starts call reply (pasts_of olds) hints (pasts_of news) left)

-- a call stopped where the history of this channel, which has so many entries, had no room for its next entry
pub record IsStopped (worker : WorkerState) (olds news : List SeenChannel) (hints left : List ℕ) (call : TraceCall)
    (channel entries : ℕ) : Type 0 where
  pub rooms : KeepRooms olds news
  pub stopped :
      OfEachStanding worker olds news call
      (λ starts contents. IsStoppedCall contents starts call channel entries (pasts_of olds) hints (pasts_of news) left)

-- memory was refused: the steps that were answered before it stand, and what the channels stood for they stand for
abbrev pub HasBrokenOff : WorkerState → List SeenChannel → List SeenChannel → List ℕ → List ℕ → TraceCall → Type 0
HasBrokenOff worker olds news hints left call =
    OfEachStanding worker olds news call
    (λ starts contents. IsBrokenOffCall contents starts call (pasts_of olds) hints (pasts_of news) left)

-- how a call ended
abbrev pub Serves : WorkerState → List SeenChannel → List SeenChannel → List ℕ → List ℕ → TraceCall →
    Result Reply ServeStop → Type 0
Serves worker olds news hints left call (Ok reply) = IsServed worker olds news hints left call reply
Serves worker olds news hints left call (Err (ServeStop.HistoryFull channel entries)) =
    IsStopped worker olds news hints left call channel entries
Serves worker olds news hints left call (Err ServeStop.Memory) = HasBrokenOff worker olds news hints left call
