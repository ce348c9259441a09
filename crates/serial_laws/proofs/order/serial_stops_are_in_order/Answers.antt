use Rattle.serial_laws.proofs.OrderedCalls.{serial_stops_are_in_order}
use Rattle.serial_laws.proofs.order.serial_stops_are_in_order.Goals as goal

pub returns : goal.returns
returns c = serial_stops_are_in_order
