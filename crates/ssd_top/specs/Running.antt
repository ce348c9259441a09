-- What holds of a worker, its channels and the queue of hints while a trace is served, and when does a run stop before its end?
-- The calls so far were served one after the other, and each channel stands for its start, for the data of the input's writes and
-- for its past.
use Rattle.std.specs.Prelude.{ℕ, ◌≡◌, ◌^◌, ◌-◌, ◌+◌, ◌≤◌, true, false, List, [], ◌∷◌, ◌++◌, All, length, replicate, slice_get, Option, Some}
use Rattle.chan_calls.specs.Workers.{WorkerState}
use Rattle.ctl.specs.Asked.{FitsDrive, HintsFit}
use Rattle.ctl.specs.Seen.{SeenChannel, pasts_of}
use Rattle.ctl.specs.Served.{AreStanding}
use Rattle.run_laws.specs.HandedCounts.{handed_by_channel}
use Rattle.run_laws.specs.Runs.{FaultCounts}
use Rattle.run_laws.specs.Serials.{HasSmallSerials}
use Rattle.run_laws.specs.ServedRuns.{HasLedTo, contents_in, is_put, IsServedFrom}
use Rattle.run_laws.specs.Starts.{starts_of}
use Rattle.run_laws.specs.StoppedRuns.{IsStoppedCall}
use Rattle.ssd_formats.specs.Input.{Input}
use Rattle.ssd_formats.specs.RunText.{taken_by}
use Rattle.ssd_geo.specs.Shape.{sizes_of}
use Rattle.ssd_histories.specs.HistoryRoom.{found_room}
use Rattle.ssd_histories.specs.Start.{Start}
use Rattle.ssd_geo.specs.declared.policy_view.PolicyView.{PolicyView}
use Rattle.ssd_geo.specs.declared.reply.Reply.{Reply}
use Rattle.ssd_geo.specs.declared.trace.Trace.{Trace}
use Rattle.ssd_geo.specs.declared.trace.TraceCall.{TraceCall}

-- each entry of a channel's past found room, and there are no more than its history's limit
pub record HasFoundRoom (channel : SeenChannel) : Type 0 where
  pub has_room : found_room channel.kept.limit channel.kept.past ≡ true
  pub short : length channel.kept.past ≤ channel.kept.limit

-- so it is on all channels
abbrev pub HaveFoundRoom : List SeenChannel → Type 0
HaveFoundRoom channels = (n : ℕ) (channel : SeenChannel) → slice_get channels n ≡ Some channel → HasFoundRoom channel

-- a job: an input, with this limit of the histories, over dies with these counts and policies that tell these views
pub record Job : Type 0 where
  pub input : Input
  pub limit : ℕ
  pub before : FaultCounts
  pub views : List (Option PolicyView)

-- so many calls left these channels, replies and hints, and so many hints dropped. What the dies of a channel count and hold is
-- part of what it stands for
pub record IsRunning (job : Job) (worker : WorkerState) (channels : List SeenChannel)
    (done : List TraceCall) (replies : List (List Reply)) (hints : List ℕ) (dropped : ℕ) : Type 0 where
  pub starts : List Start
  pub starts_are :
      starts ≡ starts_of worker.shape job.input.head job.limit job.input.channels
      (handed_by_channel job.input.head.sizes.channels job.input.head.sizes.dies job.before job.views)
  pub sizes_are : sizes_of worker.shape ≡ job.input.head.sizes
  pub is_served_from : IsServedFrom job.input starts
  pub has_led_to :
      HasLedTo (contents_in job.input) starts job.input.calls.actors done replies (pasts_of channels) hints dropped
  pub standing : AreStanding worker channels starts (contents_in job.input)
  pub have_room : HaveFoundRoom channels
  pub few_channels : length channels ≤ 8
  pub few_actors : job.input.calls.actors ≤ 32
  pub few_calls : length job.input.calls.calls ≤ 2 ^ 20
  pub fits : All (λ call. FitsDrive worker.shape (length channels) call.verb) job.input.calls.calls
  pub hints_fit : HintsFit worker.shape (length channels) hints
  pub serials : All (λ start. HasSmallSerials start.base) starts

-- some calls of a run led it to channels, to these replies and to hints, of which so many were dropped; and the next call stopped
-- for want of room in this channel's history, which has so many entries, and left these channels
pub record HasStopped (job : Job) (worker : WorkerState) (channels : List SeenChannel) (replies : List (List Reply))
    (dropped channel entries : ℕ) : Type 0 where
  pub done : List TraceCall
  pub rest : List TraceCall
  pub call : TraceCall
  pub are_calls : job.input.calls.calls ≡ done ++ call ∷ rest
  pub old : List SeenChannel
  pub hints : List ℕ
  pub left : List ℕ
  pub running : IsRunning job worker old done replies hints dropped
  pub stops :
      IsStoppedCall (contents_in job.input) running.starts call channel entries (pasts_of old) hints (pasts_of channels) left
  pub standing : AreStanding worker channels running.starts (contents_in job.input)
  pub have_room : HaveFoundRoom channels

-- some run begins with these channels and this trace
pub record BeginsRun (worker : WorkerState) (channels : List SeenChannel) (trace : Trace)
    : Type 0 where
  pub job : Job
  pub is_trace : job.input.calls ≡ trace
  pub running : IsRunning job worker channels [] (replicate trace.actors []) [] 0
  pub few_calls : length trace.calls ≤ 2 ^ 20

-- whatever run began with these channels and this trace, so many of its calls led it to these
-- channels, replies and hints, with so many dropped
abbrev pub RunsTo : WorkerState → List SeenChannel → List SeenChannel → Trace → List TraceCall →
    List (List Reply) → List ℕ → ℕ → Type 0
RunsTo worker old new trace done replies hints dropped =
    (job : Job) → job.input.calls ≡ trace →
    IsRunning job worker old [] (replicate trace.actors []) [] 0 →
    IsRunning job worker new done replies hints dropped

-- how many pages wait after a reply, where so many waited before it
abbrev pub waiting_after : Reply → ℕ → ℕ
waiting_after reply waiting = elim (is_put reply waiting) [ true ↦ waiting + 1 | false ↦ waiting - taken_by reply ]
