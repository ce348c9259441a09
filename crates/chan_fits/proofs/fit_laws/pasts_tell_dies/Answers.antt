use Rattle.chan_fits.proofs.SensedBits.{sensed_is}
use Rattle.chan_fits.proofs.WeakDies.{weak_is}
use Rattle.chan_fits.proofs.fit_laws.pasts_tell_dies.Goals as goal

pub returns : goal.returns
returns c = record {
  senses = sensed_is;
  weak = weak_is;
}
