use Rattle.calls_among_others.proofs.AmongSteps.{among_join}
use Rattle.calls_among_others.proofs.steps.steps_among_join.Goals as goal

pub returns : goal.returns
returns c = among_join
