use Rattle.race_runs.proofs.EmptyQueues.{empty_queues_were_drained}
use Rattle.race_runs.proofs.hints.empty_queues_were_drained.Goals as goal

pub returns : goal.returns
returns c = empty_queues_were_drained
