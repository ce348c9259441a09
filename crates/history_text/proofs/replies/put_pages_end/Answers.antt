use Rattle.history_text.proofs.Chains.{prints_then}
use Rattle.history_text.proofs.replies.put_pages_end.Goals as goal

pub returns : goal.returns
returns g c = prints_then c.in_ok-put_pages.ensures.ok c.put.ensures
