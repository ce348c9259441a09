-- The pages of the victim were copied so far, and each found room for its look.
use Rattle.std.proofs.Common.{◌-◌, length}
use Rattle.collector.proofs.EmptyingSteps.{HasEmptied}
use Rattle.collector.proofs.emptying.empty.Given as goal

abbrev pub invariant-copies : goal.invariant-copies
invariant-copies g l =
    HasEmptied l.fn.worker l.worker (g.S.Steps.view l.fn.steps) (g.S.Steps.view l.steps) (g.S.Steps.stands l.fn.steps)
    (g.S.Steps.stands l.steps) l.tag l.sb

abbrev pub decreases-copies : goal.decreases-copies
decreases-copies g l = (g.S.Steps.view l.steps).limit - length (g.S.Steps.view l.steps).seen
