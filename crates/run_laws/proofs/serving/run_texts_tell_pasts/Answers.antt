use Rattle.run_laws.proofs.PrintedRuns.{run_texts_tell_pasts}
use Rattle.run_laws.proofs.serving.run_texts_tell_pasts.Goals as goal

pub returns : goal.returns
returns c = run_texts_tell_pasts
