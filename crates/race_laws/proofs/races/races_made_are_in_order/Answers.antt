use Rattle.race_laws.proofs.RacesMade.{races_made}
use Rattle.race_laws.proofs.races.races_made_are_in_order.Goals as goal

pub returns : goal.returns
returns c = races_made
