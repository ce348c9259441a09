-- What comes of a call that refreshes no page? It is served on its channel, whatever hints wait, or stops there, or is broken off.
use Rattle.std.specs.Prelude.{ℕ, List, Result, Ok, Err}
use Rattle.chan_calls.specs.Workers.{WorkerState}
use Rattle.ctl.specs.BrokenOff.{IsBrokenOffOnOne}
use Rattle.ctl.specs.Seen.{SeenChannel, pasts_of}
use Rattle.ctl.specs.Served.{KeepRooms, OfEachStanding}
use Rattle.run_laws.specs.ServedRuns.{IsServedOnOne, hints_after}
use Rattle.run_laws.specs.StoppedRuns.{IsStoppedOnOne}
use Rattle.ssd_geo.specs.declared.reply.Reply.{Reply}
use Rattle.ssd_geo.specs.declared.stop.ServeStop.{ServeStop}
use Rattle.ssd_geo.specs.declared.trace.TraceCall.{TraceCall}

-- it was served with this reply
pub record HasServedOnOne (worker : WorkerState) (olds news : List SeenChannel) (call : TraceCall) (reply : Reply) : Type 0 where
  pub rooms : KeepRooms olds news
  pub served :
      OfEachStanding worker olds news call
      (λ starts contents. (hints : List ℕ) →
      IsServedOnOne contents starts call reply (pasts_of olds) hints (pasts_of news) (hints_after call.verb reply hints))

-- it stopped on this channel, whose history has so many entries
pub record HasStoppedOnOne (worker : WorkerState) (olds news : List SeenChannel) (call : TraceCall) (channel entries : ℕ)
    : Type 0 where
  pub rooms : KeepRooms olds news
  pub stopped :
      OfEachStanding worker olds news call
      (λ starts contents. (hints : List ℕ) →
      IsStoppedOnOne contents starts call channel entries (pasts_of olds) hints (pasts_of news) hints)

-- how it ended
abbrev pub ServesOnOne : WorkerState → List SeenChannel → List SeenChannel → TraceCall → Result Reply ServeStop → Type 0
ServesOnOne worker olds news call (Ok reply) = HasServedOnOne worker olds news call reply
ServesOnOne worker olds news call (Err (ServeStop.HistoryFull channel entries)) =
    HasStoppedOnOne worker olds news call channel entries
ServesOnOne worker olds news call (Err ServeStop.Memory) =
    OfEachStanding worker olds news call
    (λ starts contents. (hints : List ℕ) →
    IsBrokenOffOnOne contents starts call (pasts_of olds) hints (pasts_of news) hints)
