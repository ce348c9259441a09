use Rattle.round_bounds.proofs.RoundBounds.{rounds_end_once}
use Rattle.round_bounds.proofs.writes.rounds_end_once.Goals as goal

pub returns : goal.returns
returns c = rounds_end_once
