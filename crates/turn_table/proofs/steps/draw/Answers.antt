use Rattle.std.proofs.Common.{ap, arith}
use Rattle.turn_table.proofs.Drawing.{draws}
use Rattle.turn_table.proofs.steps.draw.Goals as goal

pub fetch_add-requires : goal.fetch_add-requires
fetch_add-requires g c = (
  c.requires.table,
  omega arith,
  draws _ _ _ _ _ _ _ (ap (λ m. m.0.stage) c.requires.away.1) c.requires.number,
)
