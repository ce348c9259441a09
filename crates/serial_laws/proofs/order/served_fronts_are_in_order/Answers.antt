use Rattle.serial_laws.proofs.OrderedCalls.{served_fronts_are_in_order}
use Rattle.serial_laws.proofs.order.served_fronts_are_in_order.Goals as goal

pub returns : goal.returns
returns c = served_fronts_are_in_order
