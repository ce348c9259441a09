use Rattle.serial_laws.proofs.OrderedCalls.{serial_calls_are_in_order}
use Rattle.serial_laws.proofs.order.serial_calls_are_in_order.Goals as goal

pub returns : goal.returns
returns c = serial_calls_are_in_order
