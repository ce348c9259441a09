use Rattle.run_laws.proofs.ServedFronts.{serves_one_more}
use Rattle.run_laws.proofs.serial.serial_runs_go_on.Goals as goal

pub returns : goal.returns
returns c = serves_one_more
