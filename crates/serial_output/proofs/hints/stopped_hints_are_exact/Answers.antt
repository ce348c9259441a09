use Rattle.serial_output.proofs.StoppedHints.{stopped_hints_are_exact}
use Rattle.serial_output.proofs.hints.stopped_hints_are_exact.Goals as goal

pub returns : goal.returns
returns c = stopped_hints_are_exact
