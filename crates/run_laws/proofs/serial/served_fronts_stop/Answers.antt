use Rattle.run_laws.proofs.ServedFronts.{served_fronts_stop}
use Rattle.run_laws.proofs.serial.served_fronts_stop.Goals as goal

pub returns : goal.returns
returns c = served_fronts_stop
