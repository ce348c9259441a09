use Rattle.past_examples.proofs.CollectExamples.{no_copy_is_none, not_idle_is_none}
use Rattle.past_examples.proofs.collect_examples.example_no_collects.Goals as goal

pub returns : goal.returns
returns c = record { not_idle = not_idle_is_none; no_copy = no_copy_is_none }
