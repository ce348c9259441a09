use Rattle.calls_among_others.proofs.AmongWrites.{writes_among}
use Rattle.calls_among_others.proofs.whole.writes_among_are_writes.Goals as goal

pub returns : goal.returns
returns c = writes_among
