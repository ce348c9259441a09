use Rattle.std.proofs.Common.{◌≡◌, [], ◌∷◌}
use Rattle.turn_table.specs.Passes.{numbers_of}
use Rattle.turn_table.proofs.tests.append_all.Given as goal

abbrev pub invariant-loop-call : goal.invariant-loop-call
invariant-loop-call g l = record { lock : l.pass.lock ≡ l.turns.lock; numbers : numbers_of l.pass ≡ l.actor ∷ [] }
