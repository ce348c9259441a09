use Rattle.calls_among_others.proofs.AmongRefreshes.{refreshes_among}
use Rattle.calls_among_others.proofs.parts.refreshes_among_are_refreshes.Goals as goal

pub returns : goal.returns
returns c = refreshes_among
