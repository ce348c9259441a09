use Rattle.std.proofs.Common.{None}
use Rattle.chan_state.proofs.Beginning.{any_view}
use Rattle.chan_state.proofs.channel.Channel.start.Goals as goal

pub new-requires : goal.new-requires
new-requires g c = any_view c.args.base c.args.limit _ _ None c.requires

pub returns-clause-begun : goal.returns-clause-begun
returns-clause-begun g c = c.in_ok-kept.ensures _
