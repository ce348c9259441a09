use Rattle.ssd_histories.proofs.MapRows.{rows_after_entry}
use Rattle.ssd_histories.proofs.history_laws.rows_after_entry.Goals as goal

pub returns : goal.returns
returns c = rows_after_entry
