use Rattle.serial_output.proofs.SameStoppedRuns.{choices_decide_stops}
use Rattle.serial_output.proofs.endings.choices_decide_stops.Goals as goal

pub returns : goal.returns
returns c = choices_decide_stops
