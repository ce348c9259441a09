use Rattle.chan_fits.proofs.EntryFits.{dies_fit_their_start}
use Rattle.chan_fits.proofs.fit_laws.dies_fit_their_start.Goals as goal

pub returns : goal.returns
returns c = dies_fit_their_start
