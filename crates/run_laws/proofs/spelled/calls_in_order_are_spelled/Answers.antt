use Rattle.run_laws.proofs.SpelledRuns.{calls_in_order_are_spelled}
use Rattle.run_laws.proofs.spelled.calls_in_order_are_spelled.Goals as goal

pub returns : goal.returns
returns c = calls_in_order_are_spelled
