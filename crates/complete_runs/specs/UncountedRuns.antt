-- Which runs tell of no fault? Those in which no die counted one: no entry of theirs tells of a call of a die that failed, and
-- no reply does. Each law is the contract of a function without a body.
use Rattle.std.specs.Prelude.{ℕ, ◌≡◌, ◌<◌, ◌*◌, Option, Bool, true, false, List, [], ◌∷◌, length, All, ⊤}
use Rattle.std.specs.List.{list_any}
use Rattle.std.specs.Option.{ForSome}
use Rattle.ssd_formats.specs.ImageHead.{Head}
use Rattle.ssd_formats.specs.Input.{Input}
use Rattle.ssd_geo.specs.Faults.{greatest_count}
use Rattle.ssd_geo.specs.declared.policy_view.PolicyView.{PolicyView}
use Rattle.ssd_geo.specs.declared.reply.Reply.{Reply}
use Rattle.ssd_geo.specs.declared.trace.TraceCall.{TraceCall}
use Rattle.ssd_histories.specs.CallSteps.{is_fault}
use Rattle.ssd_histories.specs.CallsInOrder.{ChannelRun, reply_to}
use Rattle.ssd_histories.specs.Replies.{is_die_fault}
use Rattle.ssd_histories.specs.Standing.{count_at}
use Rattle.run_laws.specs.HandedCounts.{IsRunOver}
use Rattle.run_laws.specs.Runs.{FaultCounts, Run, channels_of}
use Rattle.complete_runs.specs.OrderedRuns.{IsOrderedRun}

-- a count is at the end what it was, and isn't at the greatest value, where it would stay
pub record StoodStill (before now : ℕ) : Type 0 where
  pub is_same : now ≡ before
  pub is_below : now < greatest_count

-- the work count of each die of a channel did so
abbrev pub CountsNone : ChannelRun → FaultCounts → Type 0
CountsNone channel counts =
    (die : ℕ) → die < channel.start.base.shape.dies →
    StoodStill (count_at channel.start.work_faults die) (count_at counts.work die)

-- and those of each of the channels
abbrev pub CountNone : List ChannelRun → List FaultCounts → Type 0
CountNone [] [] = ⊤
CountNone [] (counts ∷ others) = ⊥
CountNone (channel ∷ more) [] = ⊥
CountNone (channel ∷ more) (counts ∷ others) = CountsNone channel counts × CountNone more others

-- where a run is one of an input over dies, those of each channel did where the counts of all dies of the drive, which are
-- numbered through its channels, did
abbrev pub UncountedDiesCountNone : Type 0
UncountedDiesCountNone =
    (asked : Input) (limit : ℕ) (before after : FaultCounts) (views : List (Option PolicyView)) (run : Run) →
    IsRunOver asked limit before after views run → IsOrderedRun asked.head run →
    ((die : ℕ) → die < asked.head.sizes.channels * asked.head.sizes.dies →
    StoodStill (count_at before.work die) (count_at after.work die)) →
    CountNone (channels_of run) run.faults

-- no entry of a channel tells of a call of a die that failed
abbrev pub IsFaultless : ChannelRun → Type 0
IsFaultless channel = All (λ entry. is_fault entry.kind ≡ false) channel.past

-- whether a reply tells of such a call; of a drain, whether that of one of its pages does
abbrev pub tells_fault : Reply → Bool
tells_fault (Reply.DieFault die) = true
tells_fault (Reply.Drained pages) = list_any (λ drained. is_die_fault drained.1) pages
tells_fault reply = false

-- each reply of a run is as its call has it
abbrev pub AreAnswered : Run → (TraceCall → Reply → Type 0) → Type 0
AreAnswered run fact = All (λ call. ForSome (reply_to run.replies call.tag) (fact call)) run.calls.calls

-- where no die counted a fault, no entry tells of one
abbrev pub UncountedRunsAreFaultless : Type 0
UncountedRunsAreFaultless =
    (head : Head) (run : Run) → IsOrderedRun head run → CountNone (channels_of run) run.faults →
    All IsFaultless (channels_of run)

-- and no reply does, if there is a channel
abbrev pub UncountedRunsReplyNoFault : Type 0
UncountedRunsReplyNoFault =
    (head : Head) (run : Run) → IsOrderedRun head run → CountNone (channels_of run) run.faults →
    0 < length run.starts → AreAnswered run (λ call reply. tells_fault reply ≡ false)
