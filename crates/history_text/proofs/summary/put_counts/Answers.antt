use Rattle.history_text.proofs.Chains.{prints_then, prints_front}
use Rattle.std.proofs.Common.{map, decimal, codes}
use Rattle.history_text.proofs.Chains.{stops_then, stops_early}
use Rattle.history_text.proofs.TextPieces.{stops_line, prints_line}
use Rattle.history_text.proofs.summary.put_counts.Goals as goal

pub returns-in_err-put : goal.returns-in_err-put
returns-in_err-put g c = prints_front _ c.from_residual.ensures.0 (stops_line (codes "rung") (map decimal c.args.counts.now) (stops_early _ c.in_err-put.ensures.err))

pub returns-in_err-put_spaced_counts : goal.returns-in_err-put_spaced_counts
returns-in_err-put_spaced_counts g c = prints_front _ c.from_residual-in_err-put_spaced_counts.ensures.0 (stops_line (codes "rung") (map decimal c.args.counts.now) (stops_then c.in_ok-put.ensures.ok (stops_early _ c.in_err-put_spaced_counts.ensures.err)))

pub returns : goal.returns
returns g c = prints_line (codes "rung") (map decimal c.args.counts.now) (prints_then c.in_ok-put.ensures.ok (prints_then c.in_ok-put_spaced_counts.ensures.ok c.put-2.ensures))
