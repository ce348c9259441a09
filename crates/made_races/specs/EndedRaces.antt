-- How did a race end whose actors did their parts? It is whole where each actor's calls were all answered; else each actor's
-- first call without a reply stopped somewhere, and one of them is named. Each law is the contract of a function without a
-- body.
use Rattle.std.specs.Prelude.{ℕ, ◌≡◌, ◌<◌, IfSome, None, Contains}
use Rattle.race_runs.specs.RaceEnds.{HasStopped, IsFirstUnanswered, IsStoppedRace, IsWholeRace, StopsOn}
use Rattle.race_runs.specs.RaceHints.{first_unanswered}
use Rattle.run_laws.specs.Runs.{Run}
use Rattle.run_laws.specs.SerialRuns.{HasCalls}
use Rattle.ssd_formats.specs.ImageHead.{Head}
use Rattle.ssd_geo.specs.declared.trace.TraceCall.{TraceCall}

-- where no actor has a call without a reply, the race is whole
abbrev pub AnsweredRacesAreWhole : Type 0
AnsweredRacesAreWhole =
    (head : Head) (run : Run) → HasCalls head run →
    ((actor : ℕ) → actor < run.calls.actors → first_unanswered run actor ≡ None) → IsWholeRace run

-- where each actor's first one stopped, if it has one, and one of them on this channel, at this length, the race stopped there
abbrev pub StopsEndRaces : Type 0
StopsEndRaces =
    (head : Head) (run : Run) (channel entries : ℕ) (named : TraceCall) → HasCalls head run →
    ((actor : ℕ) → actor < run.calls.actors → IfSome (first_unanswered run actor) (HasStopped run)) →
    Contains run.calls.calls named → IsFirstUnanswered run named → StopsOn run named channel entries →
    IsStoppedRace run channel entries
