use Rattle.calls_among_others.proofs.AmongSteps.{together_among}
use Rattle.calls_among_others.proofs.steps.steps_together_are_among.Goals as goal

pub returns : goal.returns
returns c = together_among
