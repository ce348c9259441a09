use Rattle.serial_laws.proofs.LeftLooks.{serial_calls_leave_looks}
use Rattle.serial_laws.proofs.order.serial_calls_leave_looks.Goals as goal

pub returns : goal.returns
returns c = serial_calls_leave_looks
