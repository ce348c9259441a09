use Rattle.collector.proofs.AloneRooms.{writes_find_room}
use Rattle.collector.proofs.alone_laws.writes_alone_find_room.Goals as goal

pub returns : goal.returns
returns c = writes_find_room c.copies_alone_are_copies.ensures
