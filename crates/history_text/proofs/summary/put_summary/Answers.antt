use Rattle.history_text.proofs.Counting.{summary_parts}
use Rattle.history_text.proofs.Chains.{prints_then, prints_front}
use Rattle.history_text.proofs.Chains.{stops_then, stops_early}
use Rattle.history_text.proofs.TextPieces.{stops_same, prints_same}
use Rattle.history_text.proofs.summary.put_summary.Goals as goal

pub returns-in_err-put_call_lines : goal.returns-in_err-put_call_lines
returns-in_err-put_call_lines g c = prints_front _ c.from_residual.ensures.0 (stops_same (summary_parts c.args.calls.now c.args.entries.now c.args.rungs.now c.args.hints.now) (stops_early _ c.in_err-put_call_lines.ensures.err))

pub returns-in_err-put_entry_lines : goal.returns-in_err-put_entry_lines
returns-in_err-put_entry_lines g c = prints_front _ c.from_residual-in_err-put_entry_lines.ensures.0 (stops_same (summary_parts c.args.calls.now c.args.entries.now c.args.rungs.now c.args.hints.now) (stops_then c.in_ok-put_call_lines.ensures.ok (stops_early _ c.in_err-put_entry_lines.ensures.err)))

pub returns-in_err-put_counts : goal.returns-in_err-put_counts
returns-in_err-put_counts g c = prints_front _ c.from_residual-in_err-put_counts.ensures.0 (stops_same (summary_parts c.args.calls.now c.args.entries.now c.args.rungs.now c.args.hints.now) (stops_then c.in_ok-put_call_lines.ensures.ok (stops_then c.in_ok-put_entry_lines.ensures.ok (stops_early _ c.in_err-put_counts.ensures.err))))

pub returns : goal.returns
returns g c = prints_same (summary_parts c.args.calls.now c.args.entries.now c.args.rungs.now c.args.hints.now) (prints_then c.in_ok-put_call_lines.ensures.ok (prints_then c.in_ok-put_entry_lines.ensures.ok (prints_then c.in_ok-put_counts.ensures.ok c.put_last_lines.ensures)))
