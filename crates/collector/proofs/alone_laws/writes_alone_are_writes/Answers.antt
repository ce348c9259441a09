use Rattle.collector.proofs.AloneWrites.{writes_are_writes}
use Rattle.collector.proofs.alone_laws.writes_alone_are_writes.Goals as goal

pub returns : goal.returns
returns c = writes_are_writes c.copies_alone_are_copies.ensures
