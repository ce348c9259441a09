use Rattle.calls_among_others.proofs.AmongSteps.{steps_are_all}
use Rattle.calls_among_others.proofs.steps.steps_among_are_all.Goals as goal

pub returns : goal.returns
returns c = steps_are_all
