use Rattle.race_runs.proofs.RaceHints.{drops_met_a_full_queue}
use Rattle.race_runs.proofs.hints.drops_met_a_full_queue.Goals as goal

pub returns : goal.returns
returns c = drops_met_a_full_queue
