use Rattle.race_laws.proofs.BegunDrains.{pages_drained}
use Rattle.race_laws.proofs.drains.refreshed_pages_are_drained.Goals as goal

pub returns : goal.returns
returns c = pages_drained
