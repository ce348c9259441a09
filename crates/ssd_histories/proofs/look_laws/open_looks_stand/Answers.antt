use Rattle.ssd_histories.proofs.OpenLookLaws.{open_looks_stand}
use Rattle.ssd_histories.proofs.look_laws.open_looks_stand.Goals as goal

pub returns : goal.returns
returns c = open_looks_stand
