use Rattle.run_laws.proofs.SerialHeadline.{serial_runs_hold}
use Rattle.run_laws.proofs.serial.serial_runs_hold.Goals as goal

pub returns : goal.returns
returns c = serial_runs_hold
