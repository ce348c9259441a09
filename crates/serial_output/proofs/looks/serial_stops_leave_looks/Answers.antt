use Rattle.serial_output.proofs.ClosedStops.{serial_stops_leave_looks}
use Rattle.serial_output.proofs.looks.serial_stops_leave_looks.Goals as goal

pub returns : goal.returns
returns c = serial_stops_leave_looks
