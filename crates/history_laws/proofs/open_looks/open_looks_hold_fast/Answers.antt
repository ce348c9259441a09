use Rattle.history_laws.proofs.HeldPages.{open_looks_hold_fast}
use Rattle.history_laws.proofs.open_looks.open_looks_hold_fast.Goals as goal

pub returns : goal.returns
returns c = open_looks_hold_fast
