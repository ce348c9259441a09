use Rattle.serial_output.proofs.WorkedStops.{stopped_short}
use Rattle.serial_output.proofs.stop_examples.example_stopped_run.Goals as goal

pub returns : goal.returns
returns c = stopped_short
