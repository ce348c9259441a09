use Rattle.collector.proofs.AloneReplies.{collects_are_replied}
use Rattle.collector.proofs.alone_laws.collects_alone_are_replied.Goals as goal

pub returns : goal.returns
returns c = collects_are_replied
