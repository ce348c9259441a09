-- What are the refreshes of a caller that is alone on its channel? They are those of calls that are served one after the
-- other. The law is the contract of a function without a body.
use Rattle.std.specs.Prelude.{ℕ, ◌≡◌, List, None, Ok, Some}
use Rattle.chan_calls.specs.Caller.{CallerView}
use Rattle.ssd_geo.specs.Coding.{coding_of}
use Rattle.ssd_geo.specs.declared.entry.Entry.{Entry}
use Rattle.ssd_geo.specs.declared.reply.RefreshReply.{RefreshReply}
use Rattle.ssd_geo.specs.declared.tag.Tag.{Tag}
use Rattle.ssd_histories.specs.CallSteps.{CallStep}
use Rattle.ssd_histories.specs.Copies.{IsRefresh}
use Rattle.ssd_histories.specs.PastPages.{ladder_of}
use Rattle.ssd_histories.specs.Replies.{is_die_fault, refresh_reply}
use Rattle.ssd_histories.specs.Rounds.{has_fault}
use Rattle.ssd_histories.specs.SerialCalls.{AreStepsFrom}
use Rattle.ssd_histories.specs.Start.{Start}
use Rattle.refresh.specs.Refreshes.{MakesRefreshFor}

-- the steps that a call made from one past to another are a refresh of a row, which has this reply; a die's call failed in
-- them just where the reply says so
pub record IsRefreshAlone (start : Start) (contents : List (Tag × List ℕ)) (tag : Tag) (row : ℕ) (before after : List Entry)
    (reply : RefreshReply) : Type 0 where
  pub steps : List CallStep
  pub are_steps : AreStepsFrom tag before steps after
  pub is_refresh : IsRefresh (ladder_of (coding_of start.base) start contents) row steps
  pub reply_is : refresh_reply (ladder_of (coding_of start.base) start contents) steps ≡ Some reply
  pub fault_is : has_fault steps ≡ is_die_fault reply

-- a refresh of a caller that is alone
abbrev pub RefreshesAloneAreRefreshes : Type 0
RefreshesAloneAreRefreshes =
    (start : Start) (contents : List (Tag × List ℕ)) (caller : CallerView) (tag : Tag) (row : ℕ) (after : List Entry)
    (reply : RefreshReply) →
    caller.number ≡ None → MakesRefreshFor start contents caller tag row after (Ok reply) →
    IsRefreshAlone start contents tag row caller.seen after reply
