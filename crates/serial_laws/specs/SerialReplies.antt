-- Which reply has a serial call? Its own entries decide it, and no other is possible. The entries of a drain tell the pages of
-- each channel in order; in which order the pages of all channels were taken is told by the serial history.
use Rattle.std.specs.Prelude.{ℕ, ◌≡◌, List, [], ◌∷◌, ◌++◌, length, All, ⊤}
use Rattle.std.specs.Option.{ForSome}
use Rattle.ssd_histories.specs.CallsInOrder.{AreNumberedAfter, ChannelRun, IsReplyOf, reply_to}
use Rattle.ssd_histories.specs.SerialHistory.{AreServed, SerialCall, SerialState, first_state, pages_drained}
use Rattle.ssd_histories.specs.SerialStop.{IsSerialStop}
use Rattle.ssd_histories.specs.Start.{Start}
use Rattle.ssd_geo.specs.declared.reply.Reply.{Reply}
use Rattle.ssd_geo.specs.declared.tag.Tag.{Tag}
use Rattle.ssd_geo.specs.declared.trace.TraceCall.{TraceCall}
use Rattle.ssd_geo.specs.declared.trace.Verb.{Verb}

-- a reply of a drain has the pages that the named one has, in this order; of other replies nothing is asked
abbrev pub NamesPages : Verb → Reply → Reply → Type 0
NamesPages (Verb.Drain count) named reply = pages_drained reply ≡ pages_drained named
NamesPages verb named reply = ⊤

-- just one reply is that of a call by its own entries; of a drain, just one of those with these pages
pub record HasOneReply (contents : List (Tag × List ℕ)) (runs : List ChannelRun) (call : TraceCall)
    (named : Reply) : Type 0 where
  pub reply : Reply
  pub is_reply : IsReplyOf contents runs call reply
  pub names : NamesPages call.verb named reply
  pub only : (other : Reply) → IsReplyOf contents runs call other → NamesPages call.verb named other → other ≡ reply

-- each call that was served has one reply; of a drain it is the one with the pages that the drain took
abbrev pub SerialCallsHaveOneReply : Type 0
SerialCallsHaveOneReply =
    (contents : List (Tag × List ℕ)) (starts : List Start) (actors : ℕ) (calls : List TraceCall) (replies : List (List Reply))
    (after : SerialState) →
    AreNumberedAfter actors [] calls → AreServed contents replies (length starts) calls (first_state starts) after →
    All (λ call. ForSome (reply_to replies call.tag) (HasOneReply contents after.channels call)) calls

-- where a run stopped in a call, those before it
abbrev pub SerialStopsHaveOneReply : Type 0
SerialStopsHaveOneReply =
    (contents : List (Tag × List ℕ)) (starts : List Start) (actors : ℕ) (calls : List TraceCall) (replies : List (List Reply))
    (named entries : ℕ) (after : SerialState)
    (stop : IsSerialStop contents starts calls replies named entries after) →
    AreNumberedAfter actors [] calls →
    All (λ call. ForSome (reply_to replies call.tag) (HasOneReply contents after.channels call)) stop.served

-- a reply that is that of a call by its own entries stays so when the next call is served
abbrev pub SerialRepliesStay : Type 0
SerialRepliesStay =
    (contents : List (Tag × List ℕ)) (starts : List Start) (actors : ℕ) (served : List TraceCall) (call : TraceCall)
    (reply : Reply) (replies : List (List Reply)) (before after : SerialState) →
    AreNumberedAfter actors [] (served ++ call ∷ []) →
    AreServed contents replies (length starts) served (first_state starts) before →
    SerialCall contents (length starts) call.tag reply call.verb before after →
    All (λ other. (held : Reply) → IsReplyOf contents before.channels other held → IsReplyOf contents after.channels other held)
    served
