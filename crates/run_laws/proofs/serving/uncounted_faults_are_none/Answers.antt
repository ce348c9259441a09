use Rattle.run_laws.proofs.CountedFaults.{uncounted_faults_are_none}
use Rattle.run_laws.proofs.serving.uncounted_faults_are_none.Goals as goal

pub returns : goal.returns
returns c = uncounted_faults_are_none
