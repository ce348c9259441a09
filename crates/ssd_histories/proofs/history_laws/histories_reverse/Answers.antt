use Rattle.ssd_histories.proofs.Histories.{histories_reverse}
use Rattle.ssd_histories.proofs.history_laws.histories_reverse.Goals as goal

pub returns : goal.returns
returns c = histories_reverse
