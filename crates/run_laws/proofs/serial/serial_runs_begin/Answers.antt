use Rattle.run_laws.proofs.ServedFronts.{serving_begins}
use Rattle.run_laws.proofs.serial.serial_runs_begin.Goals as goal

pub returns : goal.returns
returns c = serving_begins
