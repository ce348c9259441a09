use Rattle.ssd_histories.proofs.RewrittenRows.{copies_are_fresh, rewritten_rows_differ}
use Rattle.ssd_histories.proofs.look_laws.copies_are_fresh.Goals as goal

pub returns : goal.returns
returns c = record { rows = rewritten_rows_differ; copies = copies_are_fresh }
