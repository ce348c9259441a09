use Rattle.complete_runs.proofs.ToldWords.{told_levels_read_back, told_pages_are_read_at_once}
use Rattle.complete_runs.proofs.replies.told_pages_are_read_at_once.Goals as goal

pub returns : goal.returns
returns c = record { levels = told_levels_read_back; pages = told_pages_are_read_at_once }
