use Rattle.history_text.proofs.Chains.{prints_then, prints_front}
use Rattle.history_text.proofs.Chains.{stops_then, stops_early}
use Rattle.history_text.proofs.put.put_three.Goals as goal

pub returns-in_err-put_dotted : goal.returns-in_err-put_dotted
returns-in_err-put_dotted g c = prints_front _ c.from_residual-in_err-put_dotted.ensures.0 (stops_then c.in_ok-put_number.ensures.ok (stops_early _ c.in_err-put_dotted.ensures.err))

pub returns : goal.returns
returns g c = prints_then c.in_ok-put_number.ensures.ok (prints_then c.in_ok-put_dotted.ensures.ok c.put_dotted-2.ensures)
