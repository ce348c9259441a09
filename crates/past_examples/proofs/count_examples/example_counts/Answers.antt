use Rattle.past_examples.proofs.CountExamples.{answered_fail, full, loads, more, one, other_die}
use Rattle.past_examples.proofs.count_examples.example_counts.Goals as goal

pub returns : goal.returns
returns c = record { one = one; more = more; other_die = other_die; answered_fail = answered_fail; full = full; loads = loads }
