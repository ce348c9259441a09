use Rattle.std.proofs.Common.{◌∙◌, sym}
use Rattle.allocator.proofs.Next.{freshest_room, next_frontier}
use Rattle.allocator.proofs.blocks.Blocks.next_superblock.Goals as goal

pub returns-in-Some-clause-room : goal.returns-in-Some-clause-room
returns-in-Some-clause-room c =
    rw (← c.self.view_is)
    (next_frontier _ _ _ c.self.invariant.sound (sym c.self.invariant.frontier_is ∙ c.in-Some.is)).room

pub returns-in-Some-clause-one_frontier : goal.returns-in-Some-clause-one_frontier
returns-in-Some-clause-one_frontier c =
    rw (← c.self.view_is)
    (next_frontier _ _ _ c.self.invariant.sound (sym c.self.invariant.frontier_is ∙ c.in-Some.is)).one_frontier

pub returns-in-None-clause-room : goal.returns-in-None-clause-room
returns-in-None-clause-room c =
    rw (← c.self.view_is)
    (freshest_room _ _ c.freshest.result c.self.invariant.sound (sym c.self.invariant.frontier_is ∙ c.in-None.is)
    (rw c.deref.ensures.value at c.freshest.ensures))
