use Rattle.history_text.proofs.Chains.{prints_then}
use Rattle.history_text.proofs.put.put_dotted.Goals as goal

pub returns : goal.returns
returns g c = prints_then c.in_ok-put.ensures.ok c.put_number.ensures
