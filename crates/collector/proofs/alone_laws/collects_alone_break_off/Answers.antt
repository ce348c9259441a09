use Rattle.collector.proofs.AloneStops.{collects_break_off}
use Rattle.collector.proofs.alone_laws.collects_alone_break_off.Goals as goal

pub returns : goal.returns
returns c = collects_break_off c.copies_alone_are_copies.ensures
