use Rattle.made_races.proofs.EndedRaces.{stops_end_races}
use Rattle.made_races.proofs.ended.stops_end_races.Goals as goal

pub returns : goal.returns
returns c = stops_end_races
