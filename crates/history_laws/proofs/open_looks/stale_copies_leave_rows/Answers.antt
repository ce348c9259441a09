use Rattle.history_laws.proofs.StaleCopies.{stale_copies_leave_rows}
use Rattle.history_laws.proofs.open_looks.stale_copies_leave_rows.Goals as goal

pub returns : goal.returns
returns c = stale_copies_leave_rows
