use Rattle.complete_runs.proofs.TakenWrites.{blank_runs_take_writes}
use Rattle.complete_runs.proofs.replies.blank_runs_take_writes.Goals as goal

pub returns : goal.returns
returns c = blank_runs_take_writes
