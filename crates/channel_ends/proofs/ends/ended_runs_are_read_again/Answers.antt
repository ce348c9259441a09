use Rattle.channel_ends.proofs.ReadAgain.{ended_runs_are_read_again}
use Rattle.channel_ends.proofs.ends.ended_runs_are_read_again.Goals as goal

pub returns : goal.returns
returns c = ended_runs_are_read_again
