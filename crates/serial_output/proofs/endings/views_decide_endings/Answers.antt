use Rattle.serial_output.proofs.DecidedEnds.{views_decide_endings}
use Rattle.serial_output.proofs.endings.views_decide_endings.Goals as goal

pub returns : goal.returns
returns c = views_decide_endings
