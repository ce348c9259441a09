use Rattle.std.proofs.Common.{Some}
use Rattle.turn_table.proofs.turns.Turns.take.Given as goal

abbrev pub ghosts-take_begun : goal.ghosts-take_begun
ghosts-take_begun g a = record { begun = Some a.self.now.start }
