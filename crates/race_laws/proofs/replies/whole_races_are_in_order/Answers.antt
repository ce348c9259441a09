use Rattle.race_laws.proofs.WholeRaces.{whole_races_in_order}
use Rattle.race_laws.proofs.replies.whole_races_are_in_order.Goals as goal

pub returns : goal.returns
returns c = whole_races_in_order
