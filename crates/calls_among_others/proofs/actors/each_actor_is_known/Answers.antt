use Rattle.calls_among_others.proofs.ActorsSteps.{each_known}
use Rattle.calls_among_others.proofs.actors.each_actor_is_known.Goals as goal

pub returns : goal.returns
returns c = each_known
