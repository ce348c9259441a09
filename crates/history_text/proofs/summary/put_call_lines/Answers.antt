use Rattle.history_text.proofs.Chains.{prints_then, prints_front}
use Rattle.history_text.proofs.Chains.{stops_then, stops_early}
use Rattle.history_text.proofs.summary.put_call_lines.Goals as goal

pub returns-in_err-put_line : goal.returns-in_err-put_line
returns-in_err-put_line g c = prints_front _ c.from_residual.ensures.0 (stops_early _ c.in_err-put_line.ensures.err)

pub returns-in_err-put_four : goal.returns-in_err-put_four
returns-in_err-put_four g c = prints_front _ c.from_residual-in_err-put_four.ensures.0 (stops_then c.in_ok-put_line.ensures.ok (stops_early _ c.in_err-put_four.ensures.err))

pub returns-in_err-put_four-2 : goal.returns-in_err-put_four-2
returns-in_err-put_four-2 g c = prints_front _ c.from_residual-in_err-put_four-2.ensures.0 (stops_then c.in_ok-put_line.ensures.ok (stops_then c.in_ok-put_four.ensures.ok (stops_early _ c.in_err-put_four-2.ensures.err)))

pub returns : goal.returns
returns g c = (prints_then c.in_ok-put_line.ensures.ok (prints_then c.in_ok-put_four.ensures.ok (prints_then c.in_ok-put_four-2.ensures.ok c.put_line-2.ensures)))
