use Rattle.calls_among_others.proofs.AmongRounds.{rounds_among}
use Rattle.calls_among_others.proofs.parts.rounds_among_are_rounds.Goals as goal

pub returns : goal.returns
returns c = rounds_among
