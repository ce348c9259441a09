use Rattle.chan_fits.proofs.EntryFits.{dies_fit_after_entry}
use Rattle.chan_fits.proofs.fit_laws.dies_fit_after_entry.Goals as goal

pub returns : goal.returns
returns c = dies_fit_after_entry
