use Rattle.ssd_geo.proofs.StripeLists.{data_dies_are_the_others}
use Rattle.ssd_geo.proofs.stripe_laws.data_dies_are_the_others.Goals as goal

pub returns : goal.returns
returns c = data_dies_are_the_others
