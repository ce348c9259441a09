use Rattle.race_laws.proofs.AmongStops.{ages_stop}
use Rattle.race_laws.proofs.stops.ages_stop_begun.Goals as goal

pub returns : goal.returns
returns c = ages_stop
