use Rattle.made_races.proofs.MadeRaces.{actors_find_all_room}
use Rattle.made_races.proofs.made.actors_find_all_room.Goals as goal

pub returns : goal.returns
returns c = actors_find_all_room
