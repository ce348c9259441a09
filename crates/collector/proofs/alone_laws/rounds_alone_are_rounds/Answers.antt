use Rattle.collector.proofs.AloneRounds.{rounds_are_rounds}
use Rattle.collector.proofs.alone_laws.rounds_alone_are_rounds.Goals as goal

pub returns : goal.returns
returns c = rounds_are_rounds c.copies_alone_are_copies.ensures
