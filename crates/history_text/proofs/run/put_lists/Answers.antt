use Rattle.history_text.proofs.Chains.{prints_then, prints_front}
use Rattle.history_text.proofs.Chains.{stops_early}
use Rattle.history_text.proofs.run.put_lists.Goals as goal

pub returns-in_err-put_histories : goal.returns-in_err-put_histories
returns-in_err-put_histories g c = prints_front _ c.from_residual.ensures.0 (stops_early _ c.in_err-put_histories.ensures.err)

pub returns : goal.returns
returns g c = (prints_then c.in_ok-put_histories.ensures.ok c.put_actors.ensures)
