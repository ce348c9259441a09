-- When is a run complete? Where no die counted a fault, no reply tells of one. Of a drive that began blank more is said then: each
-- write is done, where the drive has no weak block; and each read answers what its row holds, where the first read level tells
-- the cells apart and no call ages a block. Where all this is so, a read answers what the calls before it in the trace left in
-- its page. Each law is the contract of a function without a body.
use Rattle.std.specs.Prelude.{◌≡◌, ◌<◌, false, [], length, All}
use Rattle.ssd_formats.specs.ImageHead.{Head}
use Rattle.run_laws.specs.Headline.{Headline}
use Rattle.run_laws.specs.Runs.{Run, channels_of, data_in}
use Rattle.run_laws.specs.SerialRuns.{HasCalls}
use Rattle.complete_runs.specs.BlankRuns.{BeginsBlank}
use Rattle.complete_runs.specs.OrderedRuns.{IsOrderedRun}
use Rattle.complete_runs.specs.PlainAnswers.{AgesNone, ReadsAnswerPlain}
use Rattle.complete_runs.specs.TakenWrites.{IsDone}
use Rattle.complete_runs.specs.ToldLevels.{TellsApart}
use Rattle.complete_runs.specs.TraceAnswers.{AreAnsweredHeld, HasEnded}
use Rattle.complete_runs.specs.UncountedRuns.{AreAnswered, CountNone, tells_fault}

-- a run is complete
pub record IsComplete (head : Head) (run : Run) : Type 0 where
  pub no_fault : CountNone (channels_of run) run.faults → AreAnswered run (λ call reply. tells_fault reply ≡ false)
  pub writes :
      head.full ≡ false → CountNone (channels_of run) run.faults → head.weak ≡ [] → AreAnswered run (λ call reply. IsDone call.verb reply)
  pub reads :
      head.full ≡ false → CountNone (channels_of run) run.faults → TellsApart head.read_levels head.law →
      All (λ call. AgesNone call.verb) run.calls.calls →
      AreAnswered run (λ call reply. ReadsAnswerPlain (data_in head run) (channels_of run) call.tag call.verb reply)
  pub traces :
      head.full ≡ false → CountNone (channels_of run) run.faults → head.weak ≡ [] → TellsApart head.read_levels head.law →
      All (λ call. AgesNone call.verb) run.calls.calls → HasEnded head run →
      AreAnsweredHeld run.replies head.sizes.bytes [] run.calls.calls

-- as each is whose calls are in order, and which began with a blank drive where its image has no contents
abbrev pub OrderedRunsAreComplete : Type 0
OrderedRunsAreComplete =
    (head : Head) (run : Run) → 0 < length run.starts → (head.full ≡ false → BeginsBlank head run) → HasCalls head run →
    IsOrderedRun head run → IsComplete head run

-- so is each of which the statement holds
abbrev pub RunsAreComplete : Type 0
RunsAreComplete =
    (head : Head) (run : Run) → 0 < length run.starts → (head.full ≡ false → BeginsBlank head run) → HasCalls head run →
    Headline head run → IsComplete head run
