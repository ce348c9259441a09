-- When is a race complete? As a run is: of nothing in it is asked that calls were served one after the other, but of what its
-- reads answer by the trace alone, which only a serial run has. The law is the contract of a function without a body.
use Rattle.std.specs.Prelude.{◌≡◌, ◌<◌, false, length}
use Rattle.complete_runs.specs.BlankRuns.{BeginsBlank}
use Rattle.complete_runs.specs.CompleteRuns.{IsComplete}
use Rattle.race_runs.specs.RaceHeadline.{RaceHeadline}
use Rattle.run_laws.specs.Runs.{Run}
use Rattle.run_laws.specs.SerialRuns.{HasCalls}
use Rattle.ssd_formats.specs.ImageHead.{Head}

-- each is of which the statement holds, and which began with a blank drive where its image has no contents
abbrev pub RacesAreComplete : Type 0
RacesAreComplete =
    (head : Head) (run : Run) → 0 < length run.starts → (head.full ≡ false → BeginsBlank head run) → HasCalls head run →
    RaceHeadline head run → IsComplete head run
