use Rattle.soft_sense.proofs.LaneLemmas.{eight_values}
use Rattle.soft_sense.proofs.soft.values_of.Goals as goal

pub returns : goal.returns
returns c = eight_values c.args.zeros c.fits-zeros.0 c.requires
