use Rattle.race_runs.proofs.RaceRoom.{rooms_in_turns, turns_of_all}
use Rattle.race_runs.proofs.headline.rooms_are_found_in_turns.Goals as goal

pub returns : goal.returns
returns c = record { serial = rooms_in_turns; actors = turns_of_all }
