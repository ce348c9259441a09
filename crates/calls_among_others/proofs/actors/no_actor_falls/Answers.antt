use Rattle.calls_among_others.proofs.ActorsSteps.{none_falls}
use Rattle.calls_among_others.proofs.actors.no_actor_falls.Goals as goal

pub returns : goal.returns
returns c = none_falls
