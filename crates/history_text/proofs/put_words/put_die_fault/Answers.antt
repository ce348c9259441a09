use Rattle.history_text.proofs.Chains.{prints_then, prints_front}
use Rattle.std.proofs.Common.{◌∷◌, decimal}
use Rattle.history_text.proofs.Chains.{stops_early}
use Rattle.history_text.proofs.put_words.put_die_fault.Goals as goal

pub returns-in_err-put : goal.returns-in_err-put
returns-in_err-put g c = prints_front _ c.from_residual.ensures.0 (stops_early (46 ∷ decimal c.args.die) c.in_err-put.ensures.err)

pub returns : goal.returns
returns g c = prints_then c.in_ok-put.ensures.ok c.put_dotted.ensures
