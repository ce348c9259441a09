-- The rounds so far left the collect to go on, and each found room for its note.
use Rattle.std.proofs.Common.{◌-◌, length}
use Rattle.collector.proofs.RoundSteps.{HasGoneRound}
use Rattle.collector.proofs.collecting.collect.Given as goal

abbrev pub invariant-rounds : goal.invariant-rounds
invariant-rounds g l =
    HasGoneRound l.fn.worker l.worker (g.S.Steps.view l.fn.steps) (g.S.Steps.view l.steps) (g.S.Steps.stands l.fn.steps)
    (g.S.Steps.stands l.steps) l.tag

abbrev pub decreases-rounds : goal.decreases-rounds
decreases-rounds g l = (g.S.Steps.view l.steps).limit - length (g.S.Steps.view l.steps).seen
