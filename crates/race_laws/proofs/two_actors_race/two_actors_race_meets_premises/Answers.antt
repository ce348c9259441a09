use Rattle.race_laws.proofs.TwoActorsRace.{two_actors_race}
use Rattle.race_laws.proofs.two_actors_race.two_actors_race_meets_premises.Goals as goal

pub returns : goal.returns
returns c = two_actors_race
