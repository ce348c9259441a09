use Rattle.race_runs.proofs.RaceEnds.{stopped_races_are_not_whole}
use Rattle.race_runs.proofs.ends.stopped_races_are_not_whole.Goals as goal

pub returns : goal.returns
returns c = stopped_races_are_not_whole
