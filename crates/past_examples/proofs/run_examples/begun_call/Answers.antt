use Rattle.past_examples.proofs.DrainedRun.{begun_in_order}
use Rattle.past_examples.proofs.run_examples.begun_call.Goals as goal

pub returns : goal.returns
returns c = begun_in_order
