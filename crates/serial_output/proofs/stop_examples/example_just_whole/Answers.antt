use Rattle.serial_output.proofs.WorkedStops.{whole_alike, worked_never, worked_whole}
use Rattle.serial_output.proofs.stop_examples.example_just_whole.Goals as goal

pub returns-clause-whole : goal.returns-clause-whole
returns-clause-whole c = worked_whole

pub returns-clause-alike : goal.returns-clause-alike
returns-clause-alike c = whole_alike

pub returns-clause-never : goal.returns-clause-never
returns-clause-never c = worked_never
