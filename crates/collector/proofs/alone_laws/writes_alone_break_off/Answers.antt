use Rattle.collector.proofs.AloneStops.{writes_break_off}
use Rattle.collector.proofs.alone_laws.writes_alone_break_off.Goals as goal

pub returns : goal.returns
returns c = writes_break_off c.copies_alone_are_copies.ensures
