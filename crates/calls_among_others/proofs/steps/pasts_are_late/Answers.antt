use Rattle.calls_among_others.proofs.AmongSteps.{late_has}
use Rattle.calls_among_others.proofs.steps.pasts_are_late.Goals as goal

pub returns : goal.returns
returns c = late_has
