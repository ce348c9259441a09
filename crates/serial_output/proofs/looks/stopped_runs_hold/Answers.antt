use Rattle.serial_output.proofs.ClosedStops.{stopped_runs_hold}
use Rattle.serial_output.proofs.looks.stopped_runs_hold.Goals as goal

pub returns : goal.returns
returns c = stopped_runs_hold
