use Rattle.ssd_histories.proofs.RewrittenRows.{erases_spare_looks}
use Rattle.ssd_histories.proofs.look_laws.erases_spare_looks.Goals as goal

pub returns : goal.returns
returns c = erases_spare_looks
