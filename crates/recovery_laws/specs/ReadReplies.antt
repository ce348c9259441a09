-- Do the replies of reads give the last writes? On one channel, and over all calls and channels of a run. Each law is the
-- contract of a function without a body.
use Rattle.std.specs.Prelude.{ℕ, ◌≡◌, ◌↔◌, IsTrue, List, All, Some, ⊤}
use Rattle.std.specs.Option.{ForSome}
use Rattle.ssd_geo.specs.declared.reply.Reply.{Reply}
use Rattle.ssd_geo.specs.declared.tag.Tag.{Tag}
use Rattle.ssd_geo.specs.declared.trace.TraceCall.{TraceCall}
use Rattle.ssd_geo.specs.declared.trace.Verb.{Verb}
use Rattle.ssd_histories.specs.CallSteps.{CallStep, is_look_at_row, position_of}
use Rattle.ssd_histories.specs.CallsInOrder.{AreCallsInOrder, AreReplies, ChannelRun, ladder_in, reply_to, steps_on}
use Rattle.ssd_histories.specs.Copies.{IsRead}
use Rattle.ssd_histories.specs.History.{look_made}
use Rattle.ssd_histories.specs.LastWrites.{GivesLastWrite, IsData, ReadsLastWrite}
use Rattle.ssd_histories.specs.Lawful.{IsLawful}
use Rattle.ssd_histories.specs.PlainMap.{nothing, plain_of}
use Rattle.ssd_histories.specs.Replies.{read_reply}
use Rattle.ssd_histories.specs.Start.{data_of}
use Rattle.recovery_laws.specs.RecoveredReads.{HasNamedPages, IsWrittenPast}

-- the past of a channel is lawful, and its writes have data
abbrev pub IsWrittenRun : List (Tag × List ℕ) → ChannelRun → Type 0
IsWrittenRun contents run = IsWrittenPast run.start contents run.past

-- the reply of a read gives the last write for the look that the read made
abbrev pub ReadsGiveLastWrites : Type 0
ReadsGiveLastWrites =
    (contents : List (Tag × List ℕ)) (run : ChannelRun) (tag : Tag) (row : ℕ) (reply : Reply) →
    IsWrittenRun contents run → IsRead (ladder_in contents run) row (steps_on tag run) →
    read_reply run.start.base.shape.bytes (ladder_in contents run) (steps_on tag run) ≡ Some reply →
    All (λ step. ForSome (look_made (position_of step) step.entry.kind) (GivesLastWrite contents run reply)) (steps_on tag run)

-- at a look of a row by a read, the read answers that the row is empty just where by its writes and trims it held nothing
abbrev pub IsEmptyJustWhere : List (Tag × List ℕ) → ChannelRun → ℕ → Reply → CallStep → Type 0
IsEmptyJustWhere contents run row reply step =
    IsTrue (is_look_at_row row step.entry.kind) →
    (reply ≡ Reply.Empty) ↔ (plain_of run.start.base contents step.past row ≡ nothing)

-- each read does so, whatever was copied
abbrev pub EmptyReadsHeldNothing : Type 0
EmptyReadsHeldNothing =
    (contents : List (Tag × List ℕ)) (run : ChannelRun) (tag : Tag) (row : ℕ) (reply : Reply) →
    IsLawful run.start contents run.past → IsRead (ladder_in contents run) row (steps_on tag run) →
    read_reply run.start.base.shape.bytes (ladder_in contents run) (steps_on tag run) ≡ Some reply →
    All (IsEmptyJustWhere contents run row reply) (steps_on tag run)

-- where a call writes, the contents give so many bytes for it
abbrev pub HasContents : ℕ → List (Tag × List ℕ) → Tag → Verb → Type 0
HasContents count contents tag (Verb.Write page content) = IsData count (data_of contents tag)
HasContents count contents tag verb = ⊤

-- a channel has a lawful past, and the contents give the data of each write of a trace
pub record IsTracedRun (contents : List (Tag × List ℕ)) (calls : List TraceCall) (run : ChannelRun) : Type 0 where
  pub has_named_pages : HasNamedPages run.start
  pub is_lawful : IsLawful run.start contents run.past
  pub has_contents : All (λ call. HasContents run.start.base.shape.bytes contents call.tag call.verb) calls

-- where the calls of a trace are in order in such channels, each entry that writes has data
abbrev pub TracedRunsAreWritten : Type 0
TracedRunsAreWritten =
    (contents : List (Tag × List ℕ)) (calls : List TraceCall) (replies : List (List Reply)) (runs : List ChannelRun) →
    All (IsTracedRun contents calls) runs → AreCallsInOrder contents calls replies runs → All (IsWrittenRun contents) runs

-- and where the replies are those of the calls' own entries too, each read gives the last write
abbrev pub CallsGiveLastWrites : Type 0
CallsGiveLastWrites =
    (contents : List (Tag × List ℕ)) (calls : List TraceCall) (replies : List (List Reply)) (runs : List ChannelRun) →
    All (IsTracedRun contents calls) runs → AreCallsInOrder contents calls replies runs →
    AreReplies contents calls replies runs →
    All (λ call. ForSome (reply_to replies call.tag) (ReadsLastWrite contents runs call.tag call.verb)) calls
