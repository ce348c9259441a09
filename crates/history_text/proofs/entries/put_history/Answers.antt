use Rattle.history_text.proofs.Chains.{prints_then, prints_front}
use Rattle.history_text.proofs.Chains.{stops_early}
use Rattle.history_text.specs.TextParts.{entries_text}
use Rattle.history_text.proofs.entries.put_history.Goals as goal

pub returns-in_err-put_line : goal.returns-in_err-put_line
returns-in_err-put_line g c = prints_front _ c.from_residual.ensures.0 (stops_early (entries_text c.args.entries.now) c.in_err-put_line.ensures.err)

pub returns : goal.returns
returns g c = prints_then c.in_ok-put_line.ensures.ok c.put_entries.ensures
