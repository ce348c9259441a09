use Rattle.history_text.proofs.Chains.{prints_then}
use Rattle.history_text.proofs.put.put.Goals as goal

pub returns : goal.returns
returns g c = prints_then c.in_ok-flush.ensures.prints.ok c.write_past.ensures
