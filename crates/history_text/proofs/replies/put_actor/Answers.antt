use Rattle.history_text.proofs.Chains.{prints_then, prints_front}
use Rattle.history_text.proofs.Chains.{stops_early}
use Rattle.history_text.specs.TextParts.{replies_text}
use Rattle.history_text.proofs.replies.put_actor.Goals as goal

pub returns-in_err-put_line : goal.returns-in_err-put_line
returns-in_err-put_line g c = prints_front _ c.from_residual.ensures.0 (stops_early (replies_text c.args.replies.now) c.in_err-put_line.ensures.err)

pub returns : goal.returns
returns g c = prints_then c.in_ok-put_line.ensures.ok c.put_replies.ensures
