use Rattle.recovery_laws.proofs.HeldLooks.{stale_copies_change_nothing}
use Rattle.recovery_laws.proofs.held_looks.stale_copies_change_nothing.Goals as goal

pub returns : goal.returns
returns c = stale_copies_change_nothing
