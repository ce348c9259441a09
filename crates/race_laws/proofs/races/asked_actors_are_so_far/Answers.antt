use Rattle.race_laws.proofs.UnbegunActors.{actors_so_far}
use Rattle.race_laws.proofs.races.asked_actors_are_so_far.Goals as goal

pub returns : goal.returns
returns c = actors_so_far
