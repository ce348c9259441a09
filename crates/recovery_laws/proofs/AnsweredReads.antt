-- In a run over all its calls and channels, the reply of each read gives the last write: the second law of
-- specs/ReadReplies.antt.
use Rattle.std.proofs.Common.{◌≡◌, ℕ, ◌<◌, ◌==◌, ◌/◌, ◌%◌, nat_lt, Bool, true, false, List, length, refl, subst, Option, Some, None, arith, All}
use Rattle.std.specs.Prelude.{IsSomeAnd, slice_get, slice_index_or}
use Rattle.std.specs.List.{enumerate_from}
use Rattle.std.specs.Option.{ForSome}
use Rattle.std.proofs.lemmas.Bool.Decides.{nat_tests}
use Rattle.std.proofs.lemmas.Option.{get_or_from_slice_get, slice_get_within}
use Rattle.ssd_geo.specs.declared.reply.Reply.{Reply}
use Rattle.ssd_geo.specs.declared.tag.Tag.{Tag}
use Rattle.ssd_geo.specs.declared.trace.TraceCall.{TraceCall}
use Rattle.ssd_geo.specs.declared.trace.Verb.{Verb}
use Rattle.ssd_histories.specs.CallSteps.{position_of}
use Rattle.ssd_histories.specs.CallsInOrder.{AreStepsOf, ChannelRun, IsAsAnswered, IsReplyBy, IsWhole, OnOwnChannel, answered_by, ladder_in, reply_to, steps_on}
use Rattle.ssd_histories.specs.Copies.{IsRead}
use Rattle.ssd_histories.specs.History.{look_made}
use Rattle.ssd_histories.specs.LastWrites.{GivesLastWrite, ReadsLastWrite}
use Rattle.ssd_histories.specs.Replies.{read_reply}
use Rattle.recovery_laws.specs.ReadReplies.{CallsGiveLastWrites, IsWrittenRun}
use Rattle.recovery_laws.proofs.ReadReplies.{reads_give_last_writes}
use Rattle.recovery_laws.proofs.WritingCalls.{traced_runs_are_written}
use Rattle.shared_lemmas.proofs.Lists.{all_at, numbered_at}

module _ (contents : List (Tag × List ℕ)) (runs : List ChannelRun) (written : All (IsWrittenRun contents) runs) (tag : Tag) (reply : Reply) where
  -- the channel of a read
  on_channel : (page : ℕ) (run : ChannelRun) → slice_get runs (page % length runs) ≡ Some run →
      All (λ item. AreStepsOf (ladder_in contents item.1) item.1.start.base (length runs) item.0 (Verb.Read page) (steps_on tag item.1)) (enumerate_from 0 runs) →
      read_reply run.start.base.shape.bytes (ladder_in contents run) (steps_on tag run) ≡ Some reply →
      All (λ step. ForSome (look_made (position_of step) step.entry.kind) (GivesLastWrite contents run reply)) (steps_on tag run)
  on_channel page run is are_steps replies =
      reads_give_last_writes contents run tag (page / length runs) reply (all_at (IsWrittenRun contents) runs (page % length runs) run written is)
      (own (page % length runs == page % length runs) (same (page % length runs))
      (numbered_at (λ item. AreStepsOf (ladder_in contents item.1) item.1.start.base (length runs) item.0 (Verb.Read page) (steps_on tag item.1)) runs
      (page % length runs) run are_steps is)) replies
    where
      same : (n : ℕ) → (n == n) ≡ true
      same n = grind (arith, nat_tests)

      own : (b : Bool) → b ≡ true → OnOwnChannel b (IsRead (ladder_in contents run) (page / length runs) (steps_on tag run)) (steps_on tag run) →
          IsRead (ladder_in contents run) (page / length runs) (steps_on tag run)
      own true e steps = steps
      own false e steps = absurd (grind arith)

  -- by the verb of the call
  verb_gives : (verb : Verb) →
      All (λ item. AreStepsOf (ladder_in contents item.1) item.1.start.base (length runs) item.0 verb (steps_on tag item.1)) (enumerate_from 0 runs) →
      IsReplyBy contents runs tag reply verb → ReadsLastWrite contents runs tag verb reply
  verb_gives (Verb.Read page) are_steps replies = by_run (slice_get runs (page % length runs)) refl replies
    where
      by_run : (option : Option ChannelRun) → slice_get runs (page % length runs) ≡ option →
          IsSomeAnd option (λ run. read_reply run.start.base.shape.bytes (ladder_in contents run) (steps_on tag run) ≡ Some reply) →
          IsSomeAnd option
          (λ run. All (λ step. ForSome (look_made (position_of step) step.entry.kind) (GivesLastWrite contents run reply)) (steps_on tag run))
      by_run None is given = absurd given
      by_run (Some run) is given = on_channel page run is are_steps given
  verb_gives verb are_steps replies = tt

-- a call that has a reply was answered, and so it was made whole
pub whole_call : (contents : List (Tag × List ℕ)) (runs : List ChannelRun) (call : TraceCall) (replies : List (List Reply)) (reply : Reply) →
    IsAsAnswered contents runs (nat_lt call.tag.call (answered_by replies call.tag.actor)) (call.tag.call == answered_by replies call.tag.actor) call →
    reply_to replies call.tag ≡ Some reply → IsWhole contents runs call
whole_call contents runs call replies reply made is =
    by_test (nat_lt call.tag.call (answered_by replies call.tag.actor)) (call.tag.call == answered_by replies call.tag.actor)
    (below (slice_get_within (slice_index_or replies call.tag.actor _) call.tag.call reply is)) made
  where
    below : {a b : ℕ} → a < b → nat_lt a b ≡ true
    below lt = grind (arith, nat_tests)

    by_test : (answered first : Bool) → answered ≡ true → IsAsAnswered contents runs answered first call → IsWhole contents runs call
    by_test true first e whole = whole
    by_test false first e whole = absurd (grind arith)

pub calls_give_last_writes : CallsGiveLastWrites
calls_give_last_writes contents calls replies runs traced in_order are_replies = λ k d within reply is.
    let call : TraceCall = slice_index_or calls k d in
    verb_gives contents runs (traced_runs_are_written contents calls replies runs traced in_order) call.tag reply call.verb
    (whole_call contents runs call replies reply (in_order.made k d within) is).on_channels (are_replies.are_replies k d within reply is)
