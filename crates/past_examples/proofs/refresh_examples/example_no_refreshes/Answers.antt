use Rattle.past_examples.proofs.RefreshExamples.{condemned_is_none, is_copy, is_read, other_row, read_is_none}
use Rattle.past_examples.proofs.refresh_examples.example_no_refreshes.Goals as goal

pub returns : goal.returns
returns c = record { other_row = other_row; is_read = is_read; read = read_is_none; is_copy = is_copy; condemned = condemned_is_none }
