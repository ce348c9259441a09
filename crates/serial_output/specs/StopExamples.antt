-- Where do three calls stop for want of room: the ageing of a block, a trim and a read? The look of the read asks for 256
-- entries beside the two before it, whether the ageing failed or not: a history of at most 257 has no room for it, one of 258
-- has.
use Rattle.std.specs.Prelude.{ℕ, ◌≡◌, ◌<◌, IsTrue, is_some, All, List, [], ◌∷◌, false, Some}
use Rattle.ssd_formats.specs.ImageHead.{Head}
use Rattle.ssd_histories.specs.HistoryExamples.{step, tag_of}
use Rattle.ssd_histories.specs.SerialHistory.{IsSerialRun, SerialState}
use Rattle.ssd_histories.specs.SerialStop.{IsSerialStop}
use Rattle.ssd_histories.specs.Standing.{IsStart, count_at}
use Rattle.ssd_histories.specs.Start.{Start}
use Rattle.ssd_histories.specs.CallsInOrder.{AreNumberedAfter}
use Rattle.ssd_geo.specs.Faults.{greatest_count}
use Rattle.ssd_geo.specs.declared.entry.Entry.{Entry}
use Rattle.ssd_geo.specs.declared.kind.Kind.{Kind}
use Rattle.ssd_geo.specs.declared.reply.Reply.{Reply}
use Rattle.ssd_geo.specs.declared.row.Row.{Row}
use Rattle.ssd_geo.specs.declared.trace.TraceCall.{TraceCall}
use Rattle.ssd_geo.specs.declared.trace.Verb.{Verb}
use Rattle.run_laws.specs.Headline.{Headline}
use Rattle.run_laws.specs.Runs.{Run, channels_of}
use Rattle.run_laws.specs.Serials.{HasSmallSerials}
use Rattle.serial_output.specs.OneEnding.{EndedAs, FoundRoom}
use Rattle.serial_output.specs.OneOutput.{HasNoFault, NoCountRose, RunsChooseAlike}

-- the calls
abbrev pub age_call : TraceCall
age_call = record { tag = tag_of 0 0; verb = Verb.Age 0 0 0 5 }

abbrev pub trim_call : TraceCall
trim_call = record { tag = tag_of 0 1; verb = Verb.Trim 0 }

abbrev pub read_call : TraceCall
read_call = record { tag = tag_of 0 2; verb = Verb.Read 0 }

abbrev pub three_calls : List TraceCall
three_calls = age_call ∷ trim_call ∷ read_call ∷ []

-- the ageing, and one in which the die's call failed
abbrev pub aged : Kind
aged = Kind.Age 0 0 5

abbrev pub not_aged : Kind
not_aged = Kind.FaultAge 0 0 5

-- the pasts before the read and after it
abbrev pub short_past : Kind → List Entry
short_past ageing = step 0 1 (Kind.Trim 0) ∷ step 0 0 ageing ∷ []

abbrev pub whole_past : Kind → List Entry
whole_past ageing = step 0 2 (Kind.Look 0 Row.Empty false) ∷ short_past ageing

-- a run with this past of its one channel
abbrev pub state_with : Start → List Entry → SerialState
state_with start past = record { channels = record { start = start; past = past } ∷ []; hints = []; dropped = 0 }

-- the calls were served up to the read, on a channel that began so
abbrev pub IsStopOf : Start → Kind → Reply → Type 0
IsStopOf start ageing reply =
    IsSerialStop [] (start ∷ []) three_calls ((reply ∷ Reply.Ok ∷ []) ∷ []) 0 2 (state_with start (short_past ageing))

-- all of them were
abbrev pub IsWholeOf : Start → Kind → Reply → Type 0
IsWholeOf start ageing reply =
    IsSerialRun [] (start ∷ []) three_calls ((reply ∷ Reply.Ok ∷ Reply.Empty ∷ []) ∷ []) (state_with start (whole_past ageing))

-- so it is on each channel whose history has this limit
abbrev pub StopAtLimit : ℕ → Kind → Reply → Type 0
StopAtLimit limit ageing reply = (start : Start) → start.limit ≡ limit → IsStopOf start ageing reply

abbrev pub AreWholeAtLimit : ℕ → Kind → Reply → Type 0
AreWholeAtLimit limit ageing reply = (start : Start) → start.limit ≡ limit → IsWholeOf start ageing reply

-- or on none
abbrev pub NeverStopAtLimit : ℕ → Kind → Reply → Type 0
NeverStopAtLimit limit ageing reply =
    (start : Start) → IsStart start → start.limit ≡ limit → IsStopOf start ageing reply → ⊥

-- what is asked of two runs of the three calls beside their ends: the calls are numbered, the entries found room, and they
-- choose alike
pub record AreWorkedAlike (start : Start) (past other : List Entry) : Type 0 where
  pub numbered : AreNumberedAfter 1 [] three_calls
  pub rooms : FoundRoom (state_with start past).channels
  pub rooms_too : FoundRoom (state_with start other).channels
  pub alike : RunsChooseAlike (state_with start past).channels (state_with start other).channels

abbrev pub ChooseAlikeAtLimit : ℕ → List Entry → List Entry → Type 0
ChooseAlikeAtLimit limit past other = (start : Start) → start.limit ≡ limit → AreWorkedAlike start past other

-- two pasts make different choices
abbrev pub ChooseApart : List Entry → List Entry → Type 0
ChooseApart past other =
    (start : Start) → RunsChooseAlike (state_with start past).channels (state_with start other).channels → ⊥

-- the run of the calls on a channel, with the counts of its dies as they were
abbrev pub run_on : Start → Run
run_on start = record {
  starts = start ∷ [];
  calls = record { actors = 1; calls = three_calls };
  pasts = short_past aged ∷ [];
  replies = (Reply.Ok ∷ Reply.Ok ∷ []) ∷ [];
  faults = record { work = start.work_faults; load = start.load_faults } ∷ [];
  dropped = 0;
}

-- a channel of an image with this head, whose history has room for 257 entries, whose policy's view is told, and none of whose
-- dies has a full count of faults
pub record IsShortStart (head : Head) (start : Start) : Type 0 where
  pub is_start : IsStart start
  pub limit_is : start.limit ≡ 257
  pub same_bytes : start.base.shape.bytes ≡ head.sizes.bytes
  pub serials : HasSmallSerials start.base
  pub told : IsTrue (is_some start.view)
  pub low_counts : (die : ℕ) → die < start.base.shape.dies → count_at start.work_faults die < greatest_count

-- on it the run stops before the read, and the statement holds of it; no count rose
pub record IsStoppedShort (head : Head) (start : Start) : Type 0 where
  pub holds : Headline head (run_on start)
  pub numbered : AreNumberedAfter 1 [] three_calls
  pub ended : EndedAs head (run_on start) (Some (0, 2))
  pub alike : RunsChooseAlike (channels_of (run_on start)) (channels_of (run_on start))
  pub no_fault : All HasNoFault (channels_of (run_on start))
  pub stay : NoCountRose (channels_of (run_on start)) (run_on start).faults

abbrev pub ShortRunsStop : Type 0
ShortRunsStop = (head : Head) (start : Start) → IsShortStart head start → IsStoppedShort head start
