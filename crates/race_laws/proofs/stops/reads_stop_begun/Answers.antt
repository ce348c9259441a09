use Rattle.race_laws.proofs.AmongStops.{reads_stop}
use Rattle.race_laws.proofs.stops.reads_stop_begun.Goals as goal

pub returns : goal.returns
returns c = reads_stop
