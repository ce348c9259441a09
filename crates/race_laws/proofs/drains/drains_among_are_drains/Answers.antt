use Rattle.race_laws.proofs.AmongDrains.{drains_among}
use Rattle.race_laws.proofs.drains.drains_among_are_drains.Goals as goal

pub returns : goal.returns
returns c = drains_among
