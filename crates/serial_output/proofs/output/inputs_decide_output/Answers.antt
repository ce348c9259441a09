use Rattle.serial_output.proofs.SameTexts.{inputs_decide_output}
use Rattle.serial_output.proofs.output.inputs_decide_output.Goals as goal

pub returns : goal.returns
returns c = inputs_decide_output
