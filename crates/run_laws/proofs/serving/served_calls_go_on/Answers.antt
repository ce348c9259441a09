use Rattle.run_laws.proofs.ServedCalls.{served_calls_go_on}
use Rattle.run_laws.proofs.serving.served_calls_go_on.Goals as goal

pub returns : goal.returns
returns c = served_calls_go_on
