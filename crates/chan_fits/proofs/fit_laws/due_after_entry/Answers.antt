use Rattle.chan_fits.proofs.EntryFits.{due_after_entry, due_tables_allow_steps}
use Rattle.chan_fits.proofs.fit_laws.due_after_entry.Goals as goal

pub returns : goal.returns
returns c = record {
  stays = due_after_entry;
  allows = due_tables_allow_steps;
}
