use Rattle.calls_among_others.proofs.TwoActors.{two_actors_meet}
use Rattle.calls_among_others.proofs.two_actors.two_actors_meet_premises.Goals as goal

pub returns : goal.returns
returns c = two_actors_meet
