use Rattle.made_races.proofs.EndedRaces.{answered_races_are_whole}
use Rattle.made_races.proofs.ended.answered_races_are_whole.Goals as goal

pub returns : goal.returns
returns c = answered_races_are_whole
