-- The laws of race_laws are those of the two calls.
use Rattle.made_races.proofs.MadeRaces.{made_races_hold}
use Rattle.made_races.proofs.made.made_races_hold.Goals as goal

pub returns : goal.returns
returns c = made_races_hold c.begun_actors_are_so_far.ensures c.races_made_are_in_order.ensures
