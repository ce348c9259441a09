use Rattle.serial_output.proofs.DecidedEnds.{choices_decide_endings}
use Rattle.serial_output.proofs.endings.choices_decide_endings.Goals as goal

pub returns : goal.returns
returns c = choices_decide_endings
