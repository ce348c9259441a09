-- The law of made_races is that of the call.
use Rattle.race_examples.proofs.StoppedRace.{two_actors_race_stops}
use Rattle.race_examples.proofs.stopped_race.two_actors_race_stops.Goals as goal

pub returns : goal.returns
returns c = two_actors_race_stops c.made_races_hold.ensures
