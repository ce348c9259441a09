use Rattle.race_laws.proofs.AmongStops.{refreshes_stop}
use Rattle.race_laws.proofs.stops.refreshes_stop_begun.Goals as goal

pub returns : goal.returns
returns c = refreshes_stop
