use Rattle.run_laws.proofs.KeptRows.{lost_rows_were_condemned}
use Rattle.run_laws.proofs.pages.lost_rows_were_condemned.Goals as goal

pub returns : goal.returns
returns c = lost_rows_were_condemned
