use Rattle.race_laws.proofs.AmongStops.{trims_stop}
use Rattle.race_laws.proofs.stops.trims_stop_begun.Goals as goal

pub returns : goal.returns
returns c = trims_stop
