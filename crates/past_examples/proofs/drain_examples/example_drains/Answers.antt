use Rattle.past_examples.proofs.DrainExamples.{both_are_taken, fault_stops, one_is_taken}
use Rattle.past_examples.proofs.drain_examples.example_drains.Goals as goal

pub returns : goal.returns
returns c = record { takes_both = both_are_taken; takes_one = one_is_taken; stops_at_fault = fault_stops }
