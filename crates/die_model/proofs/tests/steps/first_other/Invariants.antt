use Rattle.std.proofs.Common.{◌≡◌, Some}
use Rattle.die_model.proofs.tests.steps.first_other.Given as goal

-- the die keeps its plan
abbrev pub invariant-loop-at : goal.invariant-loop-at
invariant-loop-at g l = (g.D.Die.state l.die).plan ≡ Some l.plan
