use Rattle.race_runs.proofs.RaceHints.{hints_add_up}
use Rattle.race_runs.proofs.hints.hints_add_up.Goals as goal

pub returns : goal.returns
returns c = hints_add_up
