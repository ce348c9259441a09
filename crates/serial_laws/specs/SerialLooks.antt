-- Is a look left open by calls that are served one after the other? Each look of a call has its leave before the call's end.
use Rattle.std.specs.Prelude.{ℕ, ◌≡◌, List, [], length, All}
use Rattle.ssd_histories.specs.History.{open_looks}
use Rattle.ssd_histories.specs.SerialHistory.{AreServed, SerialState, first_state}
use Rattle.ssd_histories.specs.Start.{Start}
use Rattle.ssd_geo.specs.declared.reply.Reply.{Reply}
use Rattle.ssd_geo.specs.declared.tag.Tag.{Tag}
use Rattle.ssd_geo.specs.declared.trace.TraceCall.{TraceCall}

-- after the last call no look is open
abbrev pub SerialCallsLeaveLooks : Type 0
SerialCallsLeaveLooks =
    (contents : List (Tag × List ℕ)) (starts : List Start) (calls : List TraceCall) (replies : List (List Reply))
    (after : SerialState) →
    AreServed contents replies (length starts) calls (first_state starts) after →
    All (λ run. open_looks run.past ≡ []) after.channels
