use Rattle.std.proofs.Common.{arith}
use Rattle.turn_table.proofs.Dividing.{splits}
use Rattle.turn_table.proofs.steps.cut.Goals as goal

pub split_seat-requires : goal.split_seat-requires
split_seat-requires g c = (c.requires.table, omega arith, splits _ _ _ _ _ _ c.requires.away)
