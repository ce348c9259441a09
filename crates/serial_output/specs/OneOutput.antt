-- When are two serial runs of the same calls the same? Where they begin with the same starts and choose alike on each channel.
-- So where each policy's view is told and no die's call failed, the histories, replies and text are one function of the input.
use Rattle.std.specs.Prelude.{ℕ, ◌≡◌, ◌<◌, IsTrue, is_some, List, [], ◌∷◌, All, Some, slice_get, ⊤}
use Rattle.ssd_formats.specs.ImageHead.{Head}
use Rattle.ssd_histories.specs.CallsInOrder.{AreNumberedAfter, ChannelRun, reply_to}
use Rattle.ssd_histories.specs.SerialHistory.{IsSerialRun, SerialState}
use Rattle.ssd_histories.specs.Standing.{IsStart, count_at, faults_of}
use Rattle.ssd_histories.specs.Start.{Start}
use Rattle.ssd_geo.specs.Faults.{greatest_count}
use Rattle.ssd_geo.specs.declared.reply.Reply.{Reply}
use Rattle.ssd_geo.specs.declared.tag.Tag.{Tag}
use Rattle.ssd_geo.specs.declared.trace.TraceCall.{TraceCall}
use Rattle.run_laws.specs.Headline.{Headline, IsWholeRun}
use Rattle.run_laws.specs.Runs.{FaultCounts, Run, channels_of, text_of_run}
use Rattle.serial_output.specs.SameChoices.{ChooseAlike}

-- the histories of two runs choose alike on each channel
abbrev pub RunsChooseAlike : List ChannelRun → List ChannelRun → Type 0
RunsChooseAlike runs others =
    (channel : ℕ) (run other : ChannelRun) → slice_get runs channel ≡ Some run → slice_get others channel ≡ Some other →
    ChooseAlike run.past other.past

-- two runs came to the same: the same pasts, hints and drops, and the same reply to each call
pub record AreOneRun (calls : List TraceCall) (replies others : List (List Reply)) (after other : SerialState) : Type 0 where
  pub same_state : after ≡ other
  pub same_replies : All (λ call. reply_to replies call.tag ≡ reply_to others call.tag) calls

-- so the picks and the failed calls of dies decide a serial run
abbrev pub ChoicesDecideRuns : Type 0
ChoicesDecideRuns =
    (contents : List (Tag × List ℕ)) (starts : List Start) (actors : ℕ) (calls : List TraceCall)
    (replies others : List (List Reply)) (after other : SerialState) →
    All IsStart starts → AreNumberedAfter actors [] calls →
    IsSerialRun contents starts calls replies after → IsSerialRun contents starts calls others other →
    RunsChooseAlike after.channels other.channels → AreOneRun calls replies others after other

-- two runs of one trace from the same starts, of which the statement holds
pub record AreOfOneInput (head : Head) (run other : Run) : Type 0 where
  pub same_starts : run.starts ≡ other.starts
  pub same_calls : run.calls ≡ other.calls
  pub numbered : AreNumberedAfter run.calls.actors [] run.calls.calls
  pub holds : Headline head run
  pub holds_too : Headline head other

-- and whose calls were all served
pub record AreTwoRuns (head : Head) (run other : Run) : Type 0 where
  pub one_input : AreOfOneInput head run other
  pub whole : IsWholeRun head run
  pub whole_too : IsWholeRun head other

-- they have the same pasts, replies and drops, and so the same text
pub record HaveOneOutput (head : Head) (run other : Run) : Type 0 where
  pub same_pasts : run.pasts ≡ other.pasts
  pub same_replies : run.replies ≡ other.replies
  pub same_dropped : run.dropped ≡ other.dropped
  pub same_text : text_of_run head run ≡ text_of_run head other

-- the choices decide the output
abbrev pub ChoicesDecideOutput : Type 0
ChoicesDecideOutput =
    (head : Head) (run other : Run) → AreTwoRuns head run other → RunsChooseAlike (channels_of run) (channels_of other) →
    HaveOneOutput head run other

-- no entry of a channel tells of a failed call of one of its dies
abbrev pub HasNoFault : ChannelRun → Type 0
HasNoFault channel = (die : ℕ) → die < channel.start.base.shape.dies → faults_of die channel.past ≡ 0

-- where each view is told and no die's call failed, no choice is left
abbrev pub ViewsDecideOutput : Type 0
ViewsDecideOutput =
    (head : Head) (run other : Run) → AreTwoRuns head run other → All (λ start. IsTrue (is_some start.view)) run.starts →
    All HasNoFault (channels_of run) → All HasNoFault (channels_of other) → HaveOneOutput head run other

-- the work count of each die of a channel is what it was at the start, and isn't at the greatest value, where it would stay
abbrev pub HasSameCounts : ChannelRun → FaultCounts → Type 0
HasSameCounts channel counts =
    (die : ℕ) → die < channel.start.base.shape.dies →
    (count_at counts.work die ≡ count_at channel.start.work_faults die) × (count_at counts.work die < greatest_count)

-- so it is of the dies of all channels
abbrev pub NoCountRose : List ChannelRun → List FaultCounts → Type 0
NoCountRose [] counts = ⊤
NoCountRose (channel ∷ more) [] = ⊤
NoCountRose (channel ∷ more) (counts ∷ others) = HasSameCounts channel counts × NoCountRose more others

-- where each view is told and no die's count rose, the output is one function of the input, the views and the limit
abbrev pub InputsDecideOutput : Type 0
InputsDecideOutput =
    (head : Head) (run other : Run) → AreTwoRuns head run other → All (λ start. IsTrue (is_some start.view)) run.starts →
    NoCountRose (channels_of run) run.faults → NoCountRose (channels_of other) other.faults → HaveOneOutput head run other
