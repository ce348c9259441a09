use Rattle.std.proofs.Common.{arith}
use Rattle.chan_tables.proofs.FilledTables.{all_states}
use Rattle.chan_tables.proofs.tables.filling.fill_states.Goals as goal

pub returns : goal.returns
returns c =
    all_states c.args.slots c.args.blocks.now.blocks c.loop-sb.infos (omega arith)
    (λ sb low. c.loop-sb.invariant sb (omega arith))
