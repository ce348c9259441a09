use Rattle.collector.proofs.AloneRounds.{collects_are_collects}
use Rattle.collector.proofs.alone_laws.collects_alone_are_collects.Goals as goal

pub returns : goal.returns
returns c = collects_are_collects c.copies_alone_are_copies.ensures
