use Rattle.serial_output.proofs.WorkedStops.{choose_apart, other_stops}
use Rattle.serial_output.proofs.stop_examples.example_other_choice.Goals as goal

pub returns-clause-stops : goal.returns-clause-stops
returns-clause-stops c = other_stops

pub returns-clause-apart : goal.returns-clause-apart
returns-clause-apart c = choose_apart
