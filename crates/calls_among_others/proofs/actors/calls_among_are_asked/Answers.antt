use Rattle.calls_among_others.proofs.ActorsSteps.{calls_are_asked}
use Rattle.calls_among_others.proofs.actors.calls_among_are_asked.Goals as goal

pub returns : goal.returns
returns c = calls_are_asked
