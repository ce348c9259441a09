use Rattle.refresh.proofs.AloneRefreshes.{refreshes_are_refreshes}
use Rattle.refresh.proofs.alone_laws.refreshes_alone_are_refreshes.Goals as goal

pub returns : goal.returns
returns c = refreshes_are_refreshes c.copies_alone_are_refreshes.ensures
