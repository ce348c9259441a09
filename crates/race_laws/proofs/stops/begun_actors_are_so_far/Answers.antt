use Rattle.race_laws.proofs.BegunActors.{begun_actors}
use Rattle.race_laws.proofs.stops.begun_actors_are_so_far.Goals as goal

pub returns : goal.returns
returns c = begun_actors
