use Rattle.serial_output.proofs.ExactHints.{serial_hints_are_exact}
use Rattle.serial_output.proofs.hints.serial_hints_are_exact.Goals as goal

pub returns : goal.returns
returns c = serial_hints_are_exact
