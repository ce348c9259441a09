-- When was a call made whole on a channel, where others made their entries between its steps? The steps that it made since its
-- actor's call before are those that calls in order ask of its verb there, and they decide its reply.
use Rattle.std.specs.Prelude.{ℕ, ◌≡◌, ◌≤◌, ◌%◌, ◌==◌, Bool, true, false, List, Some, count_by, option_map, ⊤}
use Rattle.ssd_geo.specs.Coding.{coding_of}
use Rattle.ssd_geo.specs.Ladder.{LadderState}
use Rattle.ssd_geo.specs.declared.base.ChannelBase.{ChannelBase}
use Rattle.ssd_geo.specs.declared.entry.Entry.{Entry}
use Rattle.ssd_geo.specs.declared.reply.Reply.{Reply}
use Rattle.ssd_geo.specs.declared.tag.Tag.{Tag}
use Rattle.ssd_geo.specs.declared.trace.Verb.{Verb}
use Rattle.ssd_histories.specs.CallSteps.{CallStep, is_fault}
use Rattle.ssd_histories.specs.CallsInOrder.{AreStepsOf}
use Rattle.ssd_histories.specs.PastPages.{ladder_of}
use Rattle.ssd_histories.specs.Replies.{collect_reply, decided_pages, drained_on, pages_on, read_reply, refresh_reply, reply_of_refresh, single_reply, write_reply}
use Rattle.ssd_histories.specs.Start.{Start}
use Rattle.calls_among_others.specs.StepsAmong.{AreStepsAmong}

-- the ladders of the looks of a start and contents
abbrev pub ladders : Start → List (Tag × List ℕ) → List Entry → ℕ → LadderState
ladders start contents = ladder_of (coding_of start.base) start contents

-- a fact is asked of a call's own channel alone
abbrev pub OnOwn : Bool → Type 0 → Type 0
OnOwn true fact = fact
OnOwn false fact = ⊤

-- the pages of a drain's reply that are of a channel are those of its looks there
abbrev pub AreDrained : (List Entry → ℕ → LadderState) → ℕ → ℕ → List CallStep → Reply → Type 0
AreDrained ladder channels channel steps (Reply.Drained pages) =
    drained_on ladder channels channel steps ≡ decided_pages (pages_on channels channel pages)
AreDrained ladder channels channel steps _ = ⊥

-- the steps of a call on a channel decide this reply, as those of a call of a verb
abbrev pub DecideReply : (List Entry → ℕ → LadderState) → ChannelBase → ℕ → ℕ → Verb → List CallStep → Reply → Type 0
DecideReply ladder base channels channel (Verb.Write page content) steps reply =
    OnOwn (page % channels == channel) (write_reply steps ≡ Some reply)
DecideReply ladder base channels channel (Verb.Read page) steps reply =
    OnOwn (page % channels == channel) (read_reply base.shape.bytes ladder steps ≡ Some reply)
DecideReply ladder base channels channel (Verb.Trim page) steps reply =
    OnOwn (page % channels == channel) (single_reply steps ≡ Some reply)
DecideReply ladder base channels channel (Verb.Refresh page) steps reply =
    OnOwn (page % channels == channel) (option_map reply_of_refresh (refresh_reply ladder steps) ≡ Some reply)
DecideReply ladder base channels channel (Verb.Collect named) steps reply =
    OnOwn (named == channel) (collect_reply steps ≡ reply)
DecideReply ladder base channels channel (Verb.Drain count) steps reply = AreDrained ladder channels channel steps reply
DecideReply ladder base channels channel (Verb.Age named die sb amount) steps reply =
    OnOwn (named == channel) (single_reply steps ≡ Some reply)

-- a call of a verb was made on a channel of so many, among the calls of others, and has this reply; at most one die's call
-- failed in it there
pub record IsCallAmong (start : Start) (contents : List (Tag × List ℕ)) (channels channel : ℕ) (tag : Tag) (verb : Verb)
    (before after : List Entry) (reply : Reply) : Type 0 where
  pub steps : List CallStep
  pub are_steps : AreStepsAmong tag before steps after
  pub of_verb : AreStepsOf (ladders start contents) start.base channels channel verb steps
  pub decide : DecideReply (ladders start contents) start.base channels channel verb steps reply
  pub one_fault : count_by (λ step. is_fault step.entry.kind) steps ≤ 1
