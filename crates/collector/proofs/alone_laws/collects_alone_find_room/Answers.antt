use Rattle.collector.proofs.AloneRooms.{collects_find_room}
use Rattle.collector.proofs.alone_laws.collects_alone_find_room.Goals as goal

pub returns : goal.returns
returns c = collects_find_room c.copies_alone_are_copies.ensures
