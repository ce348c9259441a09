use Rattle.recovery_laws.proofs.HeldLooks.{closed_stripes_stay}
use Rattle.recovery_laws.proofs.held_looks.closed_stripes_stay.Goals as goal

pub returns : goal.returns
returns c = closed_stripes_stay
