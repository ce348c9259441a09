-- What does a caller that is alone on its channel answer? Just what the entries of its call decide, as the reply of a write or
-- of a collect. Each law is the contract of a function without a body.
use Rattle.std.specs.Prelude.{ℕ, ◌≡◌, List, None, Some, Ok}
use Rattle.chan_calls.specs.Caller.{CallerView}
use Rattle.ssd_geo.specs.declared.entry.Entry.{Entry}
use Rattle.ssd_geo.specs.declared.reply.Reply.{Reply}
use Rattle.ssd_geo.specs.declared.tag.Tag.{Tag}
use Rattle.ssd_histories.specs.CallSteps.{CallStep}
use Rattle.ssd_histories.specs.Replies.{collect_reply, write_reply}
use Rattle.ssd_histories.specs.SerialCalls.{AreStepsFrom}
use Rattle.ssd_histories.specs.Start.{Start}
use Rattle.collector.specs.Collects.{MakesCollectFor}
use Rattle.collector.specs.Rounds.{MakesRoundFor}
use Rattle.collector.specs.Writes.{MakesWriteFor}
use Rattle.collector.specs.declared.replies.CollectReply.{CollectReply}
use Rattle.collector.specs.declared.replies.CollectReply.TheVariants as collect
use Rattle.collector.specs.declared.replies.RoundReply.{RoundReply}
use Rattle.collector.specs.declared.replies.RoundReply.TheVariants as round
use Rattle.collector.specs.declared.replies.WriteReply.{WriteReply}
use Rattle.collector.specs.declared.replies.WriteReply.TheVariants as write

-- the reply of a call that ended so: of a write, of a collect, and of a collect that would end with a round
abbrev pub reply_to_write : WriteReply → Reply
reply_to_write write.Written = Reply.Ok
reply_to_write write.Full = Reply.Full
reply_to_write write.ReadOnly = Reply.ReadOnly
reply_to_write (write.DieFault die) = Reply.DieFault die

abbrev pub reply_to_collect : CollectReply → Reply
reply_to_collect (collect.Collected sb) = Reply.Collected sb
reply_to_collect (collect.Retired sb) = Reply.Retired sb
reply_to_collect (collect.DieFault die) = Reply.DieFault die
reply_to_collect collect.Idle = Reply.Idle

abbrev pub reply_to_round : RoundReply → Reply
reply_to_round (round.Erased sb) = Reply.Collected sb
reply_to_round (round.Retired sb) = Reply.Retired sb
reply_to_round (round.DieFault die) = Reply.DieFault die
reply_to_round round.Left = Reply.Idle

-- the steps that a call made from one past to another have this reply as those of a write
pub record AreRepliedWrite (tag : Tag) (before after : List Entry) (reply : Reply) : Type 0 where
  pub steps : List CallStep
  pub are_steps : AreStepsFrom tag before steps after
  pub reply_is : write_reply steps ≡ Some reply

-- and as those of a collect
pub record AreRepliedCollect (tag : Tag) (before after : List Entry) (reply : Reply) : Type 0 where
  pub steps : List CallStep
  pub are_steps : AreStepsFrom tag before steps after
  pub reply_is : collect_reply steps ≡ reply

-- so it is of a write, of a round and of a collect of a caller that is alone
abbrev pub WritesAloneAreReplied : Type 0
WritesAloneAreReplied =
    (start : Start) (contents : List (Tag × List ℕ)) (caller : CallerView) (tag : Tag) (row : ℕ) (before after : List Entry)
    (reply : WriteReply) →
    caller.number ≡ None → MakesWriteFor start contents caller tag row before after (Ok reply) →
    AreRepliedWrite tag before after (reply_to_write reply)

abbrev pub RoundsAloneAreReplied : Type 0
RoundsAloneAreReplied =
    (start : Start) (contents : List (Tag × List ℕ)) (caller : CallerView) (tag : Tag) (before after : List Entry)
    (reply : RoundReply) →
    caller.number ≡ None → MakesRoundFor start contents caller tag before after (Ok reply) →
    AreRepliedCollect tag before after (reply_to_round reply)

abbrev pub CollectsAloneAreReplied : Type 0
CollectsAloneAreReplied =
    (start : Start) (contents : List (Tag × List ℕ)) (caller : CallerView) (tag : Tag) (before after : List Entry)
    (reply : CollectReply) →
    caller.number ≡ None → MakesCollectFor start contents caller tag before after (Ok reply) →
    AreRepliedCollect tag before after (reply_to_collect reply)
