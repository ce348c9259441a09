-- Which replies and which views do the worked histories give? The steps of a call are those of its tag.
use Rattle.std.specs.Prelude.{ℕ, ◌≡◌, List, [], take, Some}
use Rattle.ssd_histories.specs.CallSteps.{CallStep, steps_of}
use Rattle.ssd_histories.specs.FollowedViews.{FollowsView}
use Rattle.ssd_histories.specs.History.{past_of}
use Rattle.ssd_histories.specs.HistoryExamples.{AreWithinLimits, small_channel, blank_start, tag_of, numbered_contents, plain_coding}
use Rattle.ssd_geo.specs.Ladder.{LadderState}
use Rattle.ssd_histories.specs.PastPages.{ladder_of}
use Rattle.ssd_histories.specs.Policies.{first_view}
use Rattle.ssd_histories.specs.Replies.{read_reply, write_reply}
use Rattle.ssd_histories.specs.Rounds.{IsWrite, IsCollect}
use Rattle.ssd_histories.specs.SerialCalls.{SerialWrite}
use Rattle.ssd_geo.specs.declared.entry.Entry.{Entry}
use Rattle.ssd_geo.specs.declared.policy_view.PolicyKind.{PolicyKind}
use Rattle.ssd_geo.specs.declared.reply.Reply.{Reply}
use Rattle.ssd_geo.specs.declared.weak.Weak.{Weak}

-- the steps of a call in a history
abbrev pub steps_in : List Entry → ℕ → ℕ → List CallStep
steps_in history actor call = steps_of (tag_of actor call) (past_of history)

-- the ladders of a worked history
abbrev pub example_ladder : List Weak → AreWithinLimits → List Entry → ℕ → LadderState
example_ladder weak within = ladder_of plain_coding (blank_start weak within) (numbered_contents 14)

-- a write of actor 0 has this reply
abbrev pub WriteReplies : List Entry → ℕ → Reply → Type 0
WriteReplies history call reply = write_reply (steps_in history 0 call) ≡ Some reply

-- a read of actor 0 has this reply; the words have no head, so that no byte of a word is left as data
abbrev pub ReadReplies : List Weak → List Entry → ℕ → Reply → Type 0
ReadReplies weak history call reply =
    (within : AreWithinLimits) → read_reply 0 (example_ladder weak within) (steps_in history 0 call) ≡ Some reply

-- the picks of a history are those of a policy of a kind
abbrev pub PicksAs : PolicyKind → List Entry → Type 0
PicksAs kind history = (within : AreWithinLimits) → FollowsView (small_channel [] within) (first_view kind) (past_of history)

-- the steps of a call are a write of a row, and a collect
abbrev pub IsWriteExample : List Entry → ℕ → ℕ → Type 0
IsWriteExample history call row =
    (within : AreWithinLimits) → IsWrite (example_ladder [] within) (small_channel [] within) row (steps_in history 0 call)

abbrev pub IsCollectExample : List Entry → ℕ → Type 0
IsCollectExample history call =
    (within : AreWithinLimits) → IsCollect (example_ladder [] within) (small_channel [] within) (steps_in history 0 call)

-- a write of a row that is served alone leads from the history of its first entries to all of it
abbrev pub IsSerialWriteExample : List Entry → ℕ → ℕ → ℕ → Type 0
IsSerialWriteExample history at call row =
    (within : AreWithinLimits) → SerialWrite (example_ladder [] within) (small_channel [] within) (tag_of 0 call) row (past_of (take at history)) (past_of history)
