use Rattle.race_laws.proofs.RacesInOrder.{races_in_order}
use Rattle.race_laws.proofs.races.races_are_in_order.Goals as goal

pub returns : goal.returns
returns c = races_in_order
