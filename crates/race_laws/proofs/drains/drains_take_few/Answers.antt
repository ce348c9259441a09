use Rattle.race_laws.proofs.DrainCounts.{drains_take_few}
use Rattle.race_laws.proofs.drains.drains_take_few.Goals as goal

pub returns : goal.returns
returns c = drains_take_few
