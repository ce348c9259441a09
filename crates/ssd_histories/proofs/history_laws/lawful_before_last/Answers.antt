use Rattle.ssd_histories.proofs.Histories.{lawful_before_last}
use Rattle.ssd_histories.proofs.history_laws.lawful_before_last.Goals as goal

pub returns : goal.returns
returns c = lawful_before_last
