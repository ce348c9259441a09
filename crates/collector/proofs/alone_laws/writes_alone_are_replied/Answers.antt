use Rattle.collector.proofs.AloneReplies.{writes_are_replied}
use Rattle.collector.proofs.alone_laws.writes_alone_are_replied.Goals as goal

pub returns : goal.returns
returns c = writes_are_replied
