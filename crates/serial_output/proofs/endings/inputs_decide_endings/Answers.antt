use Rattle.serial_output.proofs.DecidedEnds.{inputs_decide_endings}
use Rattle.serial_output.proofs.endings.inputs_decide_endings.Goals as goal

pub returns : goal.returns
returns c = inputs_decide_endings
