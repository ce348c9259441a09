use Rattle.past_examples.proofs.RefreshExamples.{is_moved, is_uncorrectable}
use Rattle.past_examples.proofs.refresh_examples.example_refreshes.Goals as goal

pub returns : goal.returns
returns c = record { moved = is_moved; uncorrectable = is_uncorrectable }
