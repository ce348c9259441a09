-- Serial calls are calls in order. Where each call of some that are numbered was served alone, one after the other, the
-- histories hold each call once, whole and in its actor's order, whatever the channels began with.
use Rattle.std.specs.Prelude.{ℕ, ◌≡◌, IsTrue, List, [], ◌++◌, length, None, All}
use Rattle.std.specs.List.{list_all}
use Rattle.ssd_histories.specs.CallsInOrder.{AreCallsInOrder, AreNumberedAfter, is_left, reply_to}
use Rattle.ssd_histories.specs.SerialHistory.{AreServed, SerialState, first_state}
use Rattle.ssd_histories.specs.SerialStop.{IsSerialStop}
use Rattle.ssd_histories.specs.Start.{Start}
use Rattle.ssd_geo.specs.declared.reply.Reply.{Reply}
use Rattle.ssd_geo.specs.declared.tag.Tag.{Tag}
use Rattle.ssd_geo.specs.declared.trace.TraceCall.{TraceCall}

-- all calls were served
abbrev pub SerialCallsAreInOrder : Type 0
SerialCallsAreInOrder =
    (contents : List (Tag × List ℕ)) (starts : List Start) (actors : ℕ) (calls : List TraceCall) (replies : List (List Reply))
    (after : SerialState) →
    AreNumberedAfter actors [] calls → AreServed contents replies (length starts) calls (first_state starts) after →
    AreCallsInOrder contents calls replies after.channels

-- the first calls were served, and the rest have no reply
abbrev pub ServedFrontsAreInOrder : Type 0
ServedFrontsAreInOrder =
    (contents : List (Tag × List ℕ)) (starts : List Start) (actors : ℕ) (served rest : List TraceCall)
    (replies : List (List Reply)) (after : SerialState) →
    AreNumberedAfter actors [] (served ++ rest) → AreServed contents replies (length starts) served (first_state starts) after →
    All (λ call. reply_to replies call.tag ≡ None) rest →
    AreCallsInOrder contents (served ++ rest) replies after.channels

-- a run stopped in a call, each look of which has its leave
abbrev pub SerialStopsAreInOrder : Type 0
SerialStopsAreInOrder =
    (contents : List (Tag × List ℕ)) (starts : List Start) (actors : ℕ) (calls : List TraceCall) (replies : List (List Reply))
    (named entries : ℕ) (after : SerialState)
    (stop : IsSerialStop contents starts calls replies named entries after) →
    AreNumberedAfter actors [] calls →
    IsTrue (list_all (is_left stop.call.tag) after.channels) →
    AreCallsInOrder contents calls replies after.channels
