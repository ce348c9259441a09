-- Does the statement hold of a race in which a history's limit stops an actor? Its trace has one channel, whose history has
-- room for 257 entries. The first actor trims a page and stops at its read, whose look asks for 256 entries beside the two that
-- stand; the second trims the page too, after the first, and drains hints of which there are none. The example is the contract
-- of a function without a body.
use Rattle.std.specs.Prelude.{List, [], ◌∷◌, Some}
use Rattle.hint_queue.specs.Orders.{QueueState}
use Rattle.made_races.specs.MadeRaces.{ActorsMade}
use Rattle.race_runs.specs.RaceEnds.{EndsRace}
use Rattle.race_runs.specs.RaceHeadline.{RaceHeadline}
use Rattle.race_runs.specs.RaceHints.{HintsOfRace}
use Rattle.race_runs.specs.RaceRoom.{HaveRoomInTurns}
use Rattle.run_laws.specs.Runs.{Run}
use Rattle.serial_output.specs.StopExamples.{IsShortStart}
use Rattle.ssd_formats.specs.ImageHead.{Head}
use Rattle.ssd_geo.specs.declared.entry.Entry.{Entry}
use Rattle.ssd_geo.specs.declared.kind.Kind.{Kind}
use Rattle.ssd_geo.specs.declared.reply.Reply.{Reply}
use Rattle.ssd_geo.specs.declared.trace.TraceCall.{TraceCall}
use Rattle.ssd_geo.specs.declared.trace.Verb.{Verb}
use Rattle.ssd_histories.specs.HistoryExamples.{step, tag_of}
use Rattle.ssd_histories.specs.Start.{Start}

-- the calls of the trace
abbrev pub first_trim : TraceCall
first_trim = record { tag = tag_of 0 0; verb = Verb.Trim 0 }

abbrev pub second_trim : TraceCall
second_trim = record { tag = tag_of 1 0; verb = Verb.Trim 0 }

abbrev pub stopped_read : TraceCall
stopped_read = record { tag = tag_of 0 1; verb = Verb.Read 0 }

abbrev pub empty_drain : TraceCall
empty_drain = record { tag = tag_of 1 1; verb = Verb.Drain 2 }

abbrev pub raced_calls : List TraceCall
raced_calls = first_trim ∷ second_trim ∷ stopped_read ∷ empty_drain ∷ []

-- the past of the channel before the second trim, and at the end
abbrev pub trimmed_once : List Entry
trimmed_once = step 0 0 (Kind.Trim 0) ∷ []

abbrev pub trimmed_twice : List Entry
trimmed_twice = step 1 0 (Kind.Trim 0) ∷ trimmed_once

-- the race on a channel, with the counts of its dies as they were
abbrev pub raced_on : Start → Run
raced_on start = record {
  starts = start ∷ [];
  calls = record { actors = 2; calls = raced_calls };
  pasts = trimmed_twice ∷ [];
  replies = (Reply.Ok ∷ []) ∷ (Reply.Ok ∷ Reply.Drained [] ∷ []) ∷ [];
  faults = record { work = start.work_faults; load = start.load_faults } ∷ [];
  dropped = 0;
}

-- the actors did their parts, so the statement holds of it; its entries found room; it stopped on channel 0 at two entries, and
-- its hints are in order
pub record StopsAtRead (head : Head) (start : Start) : Type 0 where
  pub made : ActorsMade head (raced_on start)
  pub holds : RaceHeadline head (raced_on start)
  pub have_room : HaveRoomInTurns (raced_on start)
  pub ended : EndsRace (raced_on start) (Some (0, 2))
  pub hints : HintsOfRace (raced_on start)

-- so it is on each channel with this limit, whatever the queue of hints is
abbrev pub TwoActorsRaceStops : Type 0
TwoActorsRaceStops =
    (head : Head) (start : Start) (queue : QueueState) → IsShortStart head start → StopsAtRead head start
