use Rattle.history_text.proofs.Chains.{prints_then}
use Rattle.history_text.proofs.put_words.put_rest.Goals as goal

pub returns : goal.returns
returns g c = prints_then c.in_ok-put_words.ensures.ok c.put.ensures
