use Rattle.serial_output.proofs.SameTexts.{choices_decide_output}
use Rattle.serial_output.proofs.output.choices_decide_output.Goals as goal

pub returns : goal.returns
returns c = choices_decide_output
