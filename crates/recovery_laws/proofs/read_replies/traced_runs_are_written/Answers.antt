use Rattle.recovery_laws.proofs.WritingCalls.{traced_runs_are_written}
use Rattle.recovery_laws.proofs.read_replies.traced_runs_are_written.Goals as goal

pub returns : goal.returns
returns c = traced_runs_are_written
