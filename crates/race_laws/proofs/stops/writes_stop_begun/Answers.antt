use Rattle.race_laws.proofs.BegunWrites.{writes_stop}
use Rattle.race_laws.proofs.stops.writes_stop_begun.Goals as goal

pub returns : goal.returns
returns c = writes_stop
