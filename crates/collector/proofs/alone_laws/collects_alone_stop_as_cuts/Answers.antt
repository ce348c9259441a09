use Rattle.collector.proofs.AloneStops.{collects_stop_as_cuts}
use Rattle.collector.proofs.alone_laws.collects_alone_stop_as_cuts.Goals as goal

pub returns : goal.returns
returns c = collects_stop_as_cuts c.copies_alone_are_copies.ensures
