use Rattle.calls_among_others.proofs.AmongRefreshes.{refresh_calls_among}
use Rattle.calls_among_others.proofs.whole.refresh_calls_among_are_refreshes.Goals as goal

pub returns : goal.returns
returns c = refresh_calls_among
