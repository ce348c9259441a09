use Rattle.serial_output.proofs.SameRuns.{choices_decide_runs}
use Rattle.serial_output.proofs.output.choices_decide_runs.Goals as goal

pub returns : goal.returns
returns c = choices_decide_runs
