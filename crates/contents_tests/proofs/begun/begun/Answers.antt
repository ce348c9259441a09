use Rattle.std.proofs.Common.{◌<◌, length, ◌∙◌, arith}
use Rattle.contents_tests.proofs.BegunRows.{first_mapped, rows_of_begun}
use Rattle.contents_tests.proofs.begun.begun.Goals as goal

pub returns : goal.returns
returns c =
    let some : 0 < length c.in-Ok-begin_channels.channels.items = omega (arith, c.in-Ok-begin_channels.ensures.count) in
    rows_of_begun c.in-Ok.read.head _ _ _ _ _ c.remove.result.kept c.in-Ok.ensures.image c.in-Ok-begin_channels.ensures.begun
    (first_mapped (λ channel. channel.kept) c.in-Ok-begin_channels.channels.items c.remove.result some c.remove.ensures.value)
    (omega arith)
    ∙ (omega arith)
