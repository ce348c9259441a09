use Rattle.run_laws.proofs.StoppedRuns.{stopped_calls_hold}
use Rattle.run_laws.proofs.serving.stopped_calls_hold.Goals as goal

pub returns : goal.returns
returns c = stopped_calls_hold
