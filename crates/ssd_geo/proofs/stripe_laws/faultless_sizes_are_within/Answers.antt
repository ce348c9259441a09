use Rattle.ssd_geo.proofs.Sizes.{faultless_sizes_are_within}
use Rattle.ssd_geo.proofs.stripe_laws.faultless_sizes_are_within.Goals as goal

pub returns : goal.returns
returns c = faultless_sizes_are_within
