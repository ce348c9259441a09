use Rattle.ssd_histories.proofs.OneOfEach.{one_frontier, one_victim}
use Rattle.ssd_histories.proofs.block_laws.one_of_each.Goals as goal

pub returns : goal.returns
returns c = record { frontier = one_frontier; victim = one_victim }
