use Rattle.race_runs.proofs.RaceHints.{drained_pages_were_hinted}
use Rattle.race_runs.proofs.hints.drained_pages_were_hinted.Goals as goal

pub returns : goal.returns
returns c = drained_pages_were_hinted
