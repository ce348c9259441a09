use Rattle.collector.proofs.AloneReplies.{rounds_are_replied}
use Rattle.collector.proofs.alone_laws.rounds_alone_are_replied.Goals as goal

pub returns : goal.returns
returns c = rounds_are_replied
