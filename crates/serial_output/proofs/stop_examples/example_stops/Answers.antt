use Rattle.serial_output.proofs.WorkedStops.{worked_alike, worked_stops}
use Rattle.serial_output.proofs.stop_examples.example_stops.Goals as goal

pub returns-clause-stops : goal.returns-clause-stops
returns-clause-stops c = worked_stops

pub returns-clause-alike : goal.returns-clause-alike
returns-clause-alike c = worked_alike
