use Rattle.past_examples.proofs.CountExamples.{below_full, load_fell, load_rose, not_counted, told_of_none}
use Rattle.past_examples.proofs.count_examples.example_no_counts.Goals as goal

pub returns : goal.returns
returns c = record { not_counted = not_counted; below_full = below_full; told_of_none = told_of_none; load_fell = load_fell; load_rose = load_rose }
