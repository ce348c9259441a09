use Rattle.calls_among_others.proofs.AmongCollects.{collects_among}
use Rattle.calls_among_others.proofs.whole.collects_among_are_collects.Goals as goal

pub returns : goal.returns
returns c = collects_among
