use Rattle.race_laws.proofs.BegunCollects.{collects_stop}
use Rattle.race_laws.proofs.stops.collects_stop_begun.Goals as goal

pub returns : goal.returns
returns c = collects_stop
