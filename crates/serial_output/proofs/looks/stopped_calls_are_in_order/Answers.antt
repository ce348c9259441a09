use Rattle.serial_output.proofs.ClosedStops.{stopped_calls_are_in_order}
use Rattle.serial_output.proofs.looks.stopped_calls_are_in_order.Goals as goal

pub returns : goal.returns
returns c = stopped_calls_are_in_order
