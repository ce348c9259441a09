use Rattle.serial_output.proofs.SameTexts.{views_decide_output}
use Rattle.serial_output.proofs.output.views_decide_output.Goals as goal

pub returns : goal.returns
returns c = views_decide_output
