use Rattle.final_dies.proofs.FittingDies.{fitting_dies_hold}
use Rattle.final_dies.proofs.holding.fitting_dies_hold.Goals as goal

pub returns : goal.returns
returns c = fitting_dies_hold
