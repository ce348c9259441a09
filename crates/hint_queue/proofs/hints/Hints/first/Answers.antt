use Rattle.hint_queue.proofs.Whole.{first_passes, first_whole}
use Rattle.hint_queue.proofs.hints.Hints.first.Goals as goal

pub returns-clause-whole : goal.returns-clause-whole
returns-clause-whole c = first_whole _ _ _ _ c.into_seats-seats.ensures.seated _ _ c.into_seats-seats.ensures.same c.requires

pub returns-clause-passes : goal.returns-clause-passes
returns-clause-passes c = first_passes _ _ _ _ c.into_seats-seats.ensures.seated _ _ c.into_seats-seats.ensures.same c.requires
