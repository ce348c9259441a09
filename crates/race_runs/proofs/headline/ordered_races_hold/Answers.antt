use Rattle.race_runs.proofs.RaceHeadline.{ordered_races_hold}
use Rattle.race_runs.proofs.headline.ordered_races_hold.Goals as goal

pub returns : goal.returns
returns c = ordered_races_hold
