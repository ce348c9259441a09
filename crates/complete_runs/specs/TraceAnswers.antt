-- What do the reads of a run answer by its trace alone? A page of a blank drive holds what the calls before wrote and trimmed;
-- where each write is done and each read answers what its row holds, a read answers just that. The law is the contract of a
-- function without a body.
use Rattle.std.specs.Prelude.{ℕ, ◌≡◌, ◌==◌, ◌⊎◌, true, false, List, [], ◌∷◌, ◌++◌, All, Some, ⊤}
use Rattle.std.specs.Option.{ForSome}
use Rattle.ssd_formats.specs.ImageHead.{Head}
use Rattle.ssd_formats.specs.TraceText.{content_bytes}
use Rattle.ssd_geo.specs.declared.reply.Reply.{Reply}
use Rattle.ssd_geo.specs.declared.trace.TraceCall.{TraceCall}
use Rattle.ssd_geo.specs.declared.trace.Verb.{Verb}
use Rattle.ssd_histories.specs.CallsInOrder.{reply_to}
use Rattle.ssd_histories.specs.PlainMap.{PlainRow, bytes, nothing}
use Rattle.run_laws.specs.Headline.{IsStoppedRun, IsWholeRun}
use Rattle.run_laws.specs.Runs.{Run, channels_of}
use Rattle.run_laws.specs.SerialRuns.{HasCalls}
use Rattle.complete_runs.specs.BlankRuns.{BeginsBlank}
use Rattle.complete_runs.specs.OrderedRuns.{IsOrderedRun}
use Rattle.complete_runs.specs.PlainAnswers.{AgesNone, answer_of}
use Rattle.complete_runs.specs.ToldLevels.{TellsApart}
use Rattle.complete_runs.specs.UncountedRuns.{CountNone}

-- what a page holds after a call, from what it held before: a write gives it so many data bytes, and a trim empties it
abbrev pub held_after : ℕ → ℕ → PlainRow → Verb → PlainRow
held_after count page held (Verb.Write named content) =
    elim (named == page) [ true ↦ bytes (content_bytes count content) | false ↦ held ]
held_after count page held (Verb.Trim named) = elim (named == page) [ true ↦ nothing | false ↦ held ]
held_after count page held verb = held

-- what it holds after some calls
abbrev pub held_from : ℕ → ℕ → PlainRow → List TraceCall → PlainRow
held_from count page held [] = held
held_from count page held (call ∷ calls) = held_from count page (held_after count page held call.verb) calls

-- and where it held nothing before them
abbrev pub held_by : ℕ → List TraceCall → ℕ → PlainRow
held_by count calls page = held_from count page nothing calls

-- a read answers what its page holds after the calls before it; of other verbs nothing is asked
abbrev pub AnswersHeld : ℕ → List TraceCall → Verb → Reply → Type 0
AnswersHeld count before (Verb.Read page) reply = answer_of (held_by count before page) ≡ Some reply
AnswersHeld count before verb reply = ⊤

-- each of some calls that has a reply does so, with these calls before them
abbrev pub AreAnsweredHeld : List (List Reply) → ℕ → List TraceCall → List TraceCall → Type 0
AreAnsweredHeld replies count before [] = ⊤
AreAnsweredHeld replies count before (call ∷ calls) =
    ForSome (reply_to replies call.tag) (AnswersHeld count before call.verb)
    × AreAnsweredHeld replies count (before ++ call ∷ []) calls

-- a run was whole, or it stopped in some call
abbrev pub HasEnded : Head → Run → Type 0
HasEnded head run = IsWholeRun head run ⊎ ((channel : ℕ) × (entries : ℕ) × IsStoppedRun head run channel entries)

-- so do all calls of a run that ended, where the drive began blank, has no weak block and a first read level that tells its
-- cells apart, no die counted a fault and no call ages a block
abbrev pub BlankRunsAnswerTraces : Type 0
BlankRunsAnswerTraces =
    (head : Head) (run : Run) → BeginsBlank head run → head.weak ≡ [] → TellsApart head.read_levels head.law →
    HasCalls head run → IsOrderedRun head run → HasEnded head run → CountNone (channels_of run) run.faults →
    All (λ call. AgesNone call.verb) run.calls.calls → AreAnsweredHeld run.replies head.sizes.bytes [] run.calls.calls
