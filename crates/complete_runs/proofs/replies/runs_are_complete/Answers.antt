use Rattle.complete_runs.proofs.CompleteRuns.{ordered_runs_are_complete, runs_are_complete}
use Rattle.complete_runs.proofs.replies.runs_are_complete.Goals as goal

pub returns : goal.returns
returns c = record { ordered = ordered_runs_are_complete; runs = runs_are_complete }
