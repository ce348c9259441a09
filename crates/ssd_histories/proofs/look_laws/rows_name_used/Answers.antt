use Rattle.ssd_histories.proofs.OpenLookLaws.{rows_name_used}
use Rattle.ssd_histories.proofs.look_laws.rows_name_used.Goals as goal

pub returns : goal.returns
returns c = rows_name_used
