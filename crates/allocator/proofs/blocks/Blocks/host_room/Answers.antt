use Rattle.allocator.proofs.Freshest.{any_room_of_two}
use Rattle.allocator.proofs.blocks.Blocks.host_room.Goals as goal

pub returns-else-self-ge1-clause-any_room : goal.returns-else-self-ge1-clause-any_room
returns-else-self-ge1-clause-any_room c =
    rw (← c.self.view_is) (any_room_of_two c.self.inside.blocks.items c.self.inside.free c.self.invariant.free_is)
