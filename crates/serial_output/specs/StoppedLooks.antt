-- Is a look left open where a run stopped in a call? Nothing inside a look asks for room, so a cut never comes between a look
-- and its leave: none is open, the calls are in order, and the statement holds of the run, whatever its verbs.
use Rattle.std.specs.Prelude.{ℕ, ◌≡◌, List, [], All}
use Rattle.ssd_formats.specs.ImageHead.{Head}
use Rattle.ssd_histories.specs.CallsInOrder.{AreCallsInOrder, AreNumberedAfter}
use Rattle.ssd_histories.specs.History.{open_looks}
use Rattle.ssd_histories.specs.SerialHistory.{SerialState}
use Rattle.ssd_histories.specs.SerialStop.{IsSerialStop}
use Rattle.ssd_histories.specs.Start.{Start}
use Rattle.ssd_geo.specs.declared.reply.Reply.{Reply}
use Rattle.ssd_geo.specs.declared.tag.Tag.{Tag}
use Rattle.ssd_geo.specs.declared.trace.TraceCall.{TraceCall}
use Rattle.run_laws.specs.Headline.{Headline, IsStoppedRun}
use Rattle.run_laws.specs.Runs.{Run}
use Rattle.run_laws.specs.SerialRuns.{ChannelsHold, HasCalls}

-- no look is open where a run stopped
abbrev pub SerialStopsLeaveLooks : Type 0
SerialStopsLeaveLooks =
    (contents : List (Tag × List ℕ)) (starts : List Start) (calls : List TraceCall) (replies : List (List Reply))
    (named entries : ℕ) (after : SerialState) →
    IsSerialStop contents starts calls replies named entries after → All (λ run. open_looks run.past ≡ []) after.channels

-- so its calls are in order
abbrev pub StoppedCallsAreInOrder : Type 0
StoppedCallsAreInOrder =
    (contents : List (Tag × List ℕ)) (starts : List Start) (actors : ℕ) (calls : List TraceCall) (replies : List (List Reply))
    (named entries : ℕ) (after : SerialState) →
    AreNumberedAfter actors [] calls → IsSerialStop contents starts calls replies named entries after →
    AreCallsInOrder contents calls replies after.channels

-- and the statement holds
abbrev pub StoppedRunsHold : Type 0
StoppedRunsHold =
    (head : Head) (run : Run) (channel entries : ℕ) → IsStoppedRun head run channel entries → HasCalls head run →
    ChannelsHold head run → Headline head run
