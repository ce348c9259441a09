use Rattle.race_laws.proofs.BegunDrains.{drains_stop}
use Rattle.race_laws.proofs.stops.drains_stop_begun.Goals as goal

pub returns : goal.returns
returns c = drains_stop
