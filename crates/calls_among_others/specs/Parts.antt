-- What do the parts of a call come to where others make their entries between its steps? A copy of a look's page is a copy,
-- also where others came; a round is a round, and a refresh of a row a refresh. Each is decided by the pasts that its steps
-- found, and of the entries of others nothing else is asked. Each law is the contract of a function without a body.
use Rattle.std.specs.Prelude.{ℕ, ◌≡◌, Bool, true, false, List, Some, Ok}
use Rattle.chan_calls.specs.Caller.{CallerView}
use Rattle.chan_calls.specs.Copied.{CopiesFor, HasJustLooked, is_die_fault, is_round_end, step_of_look}
use Rattle.chan_calls.specs.declared.copy_reply.CopyReply.{CopyReply}
use Rattle.collector.specs.AloneReplies.{reply_to_round}
use Rattle.collector.specs.Rounds.{MakesRoundFor}
use Rattle.collector.specs.declared.replies.RoundReply.{RoundReply}
use Rattle.collector.specs.declared.replies.RoundReply.TheVariants as round
use Rattle.refresh.specs.Refreshes.{MakesRefreshFor}
use Rattle.ssd_geo.specs.declared.entry.Entry.{Entry}
use Rattle.ssd_geo.specs.declared.look.Look.{Look}
use Rattle.ssd_geo.specs.declared.reply.RefreshReply.{RefreshReply}
use Rattle.ssd_geo.specs.declared.tag.Tag.{Tag}
use Rattle.ssd_histories.specs.CallSteps.{CallStep}
use Rattle.ssd_histories.specs.Copies.{IsCopy, IsRefresh}
use Rattle.ssd_histories.specs.Replies as replies
use Rattle.ssd_histories.specs.Replies.{collect_reply, refresh_reply}
use Rattle.ssd_histories.specs.Rounds.{IsRound, ends_round, has_erase, has_fault}
use Rattle.ssd_histories.specs.Start.{Start}
use Rattle.calls_among_others.specs.CallsAmong.{ladders}
use Rattle.calls_among_others.specs.StepsAmong.{AreStepsAmong}

-- the steps that a call made from a look's past to another, among those of others, are a copy of the look's page, which ends
-- its round where the reply says so
pub record IsCopyAmong (start : Start) (contents : List (Tag × List ℕ)) (tag : Tag) (look : Look) (before after : List Entry)
    (reply : CopyReply) : Type 0 where
  pub steps : List CallStep
  pub are_steps : AreStepsAmong tag before steps after
  pub is_copy : IsCopy (ladders start contents) steps (step_of_look tag look before)
  pub ends_is : ends_round steps ≡ is_round_end reply
  pub fault_is : has_fault steps ≡ is_die_fault reply

abbrev pub CopiesAmongAreCopies : Type 0
CopiesAmongAreCopies =
    (start : Start) (contents : List (Tag × List ℕ)) (caller : CallerView) (tag : Tag) (look : Look) (before after : List Entry)
    (reply : CopyReply) →
    HasJustLooked caller tag look before → CopiesFor start contents caller tag look.at true after reply →
    IsCopyAmong start contents tag look before after reply

-- whether a round ended in a die's call that failed, and whether it erased or tried to
abbrev pub is_round_fault : RoundReply → Bool
is_round_fault (round.DieFault die) = true
is_round_fault (round.Erased sb) = false
is_round_fault (round.Retired sb) = false
is_round_fault round.Left = false

abbrev pub is_left : RoundReply → Bool
is_left round.Left = true
is_left (round.Erased sb) = false
is_left (round.Retired sb) = false
is_left (round.DieFault die) = false

-- the steps that a call made since a past, among those of others, are a round, which ended as its reply says
pub record IsRoundAmong (start : Start) (contents : List (Tag × List ℕ)) (tag : Tag) (before after : List Entry)
    (reply : RoundReply) : Type 0 where
  pub steps : List CallStep
  pub are_steps : AreStepsAmong tag before steps after
  pub is_round : IsRound (ladders start contents) start.base steps
  pub fault_is : has_fault steps ≡ is_round_fault reply
  pub left_none : is_left reply ≡ true → has_erase steps ≡ false
  pub reply_is : collect_reply steps ≡ reply_to_round reply

abbrev pub RoundsAmongAreRounds : Type 0
RoundsAmongAreRounds =
    (start : Start) (contents : List (Tag × List ℕ)) (caller : CallerView) (tag : Tag) (before after : List Entry)
    (reply : RoundReply) →
    MakesRoundFor start contents caller tag before after (Ok reply) → IsRoundAmong start contents tag before after reply

-- the steps that a call made since a past, among those of others, are a refresh of a row, which has this reply; a die's call
-- failed in them just where the reply says so
pub record IsRefreshAmong (start : Start) (contents : List (Tag × List ℕ)) (tag : Tag) (row : ℕ) (before after : List Entry)
    (reply : RefreshReply) : Type 0 where
  pub steps : List CallStep
  pub are_steps : AreStepsAmong tag before steps after
  pub is_refresh : IsRefresh (ladders start contents) row steps
  pub reply_is : refresh_reply (ladders start contents) steps ≡ Some reply
  pub fault_is : has_fault steps ≡ replies.is_die_fault reply

abbrev pub RefreshesAmongAreRefreshes : Type 0
RefreshesAmongAreRefreshes =
    (start : Start) (contents : List (Tag × List ℕ)) (caller : CallerView) (tag : Tag) (row : ℕ) (after : List Entry)
    (reply : RefreshReply) →
    MakesRefreshFor start contents caller tag row after (Ok reply) →
    IsRefreshAmong start contents tag row caller.seen after reply
