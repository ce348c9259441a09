use Rattle.past_examples.proofs.DrainExamples.{early_is_none, fault_is_last, newest_is_none}
use Rattle.past_examples.proofs.drain_examples.example_no_drains.Goals as goal

pub returns : goal.returns
returns c = record { goes_on = fault_is_last; newest = newest_is_none; early = early_is_none }
