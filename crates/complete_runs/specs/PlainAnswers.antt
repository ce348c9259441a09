-- What does each read of a blank drive answer? Where the first read level tells the cells apart, whatever their noise, no
-- block was aged and no die counted a fault: the data of its row's latest write at rung 0, or that the row is empty where it
-- wasn't written since it was trimmed. Each law is the contract of a function without a body.
use Rattle.std.specs.Prelude.{ℕ, ◌≡◌, ◌%◌, ◌/◌, List, ◌∷◌, length, IsTrue, All, Option, Some, None, ⊤}
use Rattle.ssd_formats.specs.ImageHead.{Head}
use Rattle.ssd_geo.specs.declared.reply.Reply.{Reply}
use Rattle.ssd_geo.specs.declared.tag.Tag.{Tag}
use Rattle.ssd_geo.specs.declared.trace.Verb.{Verb}
use Rattle.ssd_histories.specs.CallSteps.{CallStep, is_look_at_row}
use Rattle.ssd_histories.specs.CallsInOrder.{ChannelRun, OfRun, steps_on}
use Rattle.ssd_histories.specs.PlainMap.{PlainRow, bytes, nothing, plain_of, untold}
use Rattle.run_laws.specs.FirstSenses.{IsNoAgeing, ReadsBack}
use Rattle.run_laws.specs.Runs.{Run, channels_of, data_in}
use Rattle.run_laws.specs.SerialRuns.{HasCalls}
use Rattle.complete_runs.specs.BlankRuns.{BeginsBlank}
use Rattle.complete_runs.specs.OrderedRuns.{IsOrderedRun}
use Rattle.complete_runs.specs.ToldLevels.{TellsApart}
use Rattle.complete_runs.specs.UncountedRuns.{AreAnswered, CountNone}

-- the answer of a read of a row that holds this by its writes and trims
abbrev pub answer_of : PlainRow → Option Reply
answer_of nothing = Some Reply.Empty
answer_of (bytes data_bytes) = Some (Reply.Data 0 data_bytes)
answer_of untold = None

-- a read of a row, which looks first, has the answer of what the row holds at the look
pub record AnswersPlain (contents : List (Tag × List ℕ)) (run : ChannelRun) (tag : Tag) (row : ℕ) (reply : Reply) : Type 0 where
  pub look : CallStep
  pub rest : List CallStep
  pub are_steps : steps_on tag run ≡ look ∷ rest
  pub is_look : IsTrue (is_look_at_row row look.entry.kind)
  pub is_answer : answer_of (plain_of run.start.base contents look.past row) ≡ Some reply

-- a read of a page does so on the page's channel; of other verbs nothing is asked
abbrev pub ReadsAnswerPlain : List (Tag × List ℕ) → List ChannelRun → Tag → Verb → Reply → Type 0
ReadsAnswerPlain contents runs tag (Verb.Read page) reply =
    OfRun runs (page % length runs) (λ run. AnswersPlain contents run tag (page / length runs) reply)
ReadsAnswerPlain contents runs tag verb reply = ⊤

-- no block was aged on a channel
abbrev pub IsUnaged : ChannelRun → Type 0
IsUnaged channel = All (λ entry. IsNoAgeing entry.kind) channel.past

-- a call ages no block
abbrev pub AgesNone : Verb → Type 0
AgesNone (Verb.Age channel die sb amount) = ⊥
AgesNone verb = ⊤

-- where no call does, no block was aged
abbrev pub UnagedCallsAgeNone : Type 0
UnagedCallsAgeNone =
    (head : Head) (run : Run) → IsOrderedRun head run → All (λ call. AgesNone call.verb) run.calls.calls →
    All IsUnaged (channels_of run)

-- each read answers so where the words of each channel are read from their first sense
abbrev pub FirstSensesAnswerReads : Type 0
FirstSensesAnswerReads =
    (head : Head) (run : Run) → BeginsBlank head run → All (λ channel. ReadsBack channel.start.base) (channels_of run) →
    HasCalls head run → IsOrderedRun head run → CountNone (channels_of run) run.faults → All IsUnaged (channels_of run) →
    AreAnswered run (λ call reply. ReadsAnswerPlain (data_in head run) (channels_of run) call.tag call.verb reply)

-- so each does where the first read level tells cells apart, and no call ages a block
abbrev pub BlankRunsAnswerReads : Type 0
BlankRunsAnswerReads =
    (head : Head) (run : Run) → BeginsBlank head run → TellsApart head.read_levels head.law → HasCalls head run →
    IsOrderedRun head run → CountNone (channels_of run) run.faults → All (λ call. AgesNone call.verb) run.calls.calls →
    AreAnswered run (λ call reply. ReadsAnswerPlain (data_in head run) (channels_of run) call.tag call.verb reply)
