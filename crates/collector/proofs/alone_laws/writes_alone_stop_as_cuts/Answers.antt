use Rattle.collector.proofs.AloneStops.{writes_stop_as_cuts}
use Rattle.collector.proofs.alone_laws.writes_alone_stop_as_cuts.Goals as goal

pub returns : goal.returns
returns c = writes_stop_as_cuts c.copies_alone_are_copies.ensures
