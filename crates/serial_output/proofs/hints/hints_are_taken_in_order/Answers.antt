use Rattle.serial_output.proofs.ExactHints.{hints_are_taken_in_order}
use Rattle.serial_output.proofs.hints.hints_are_taken_in_order.Goals as goal

pub returns : goal.returns
returns c = hints_are_taken_in_order
