use Rattle.chan_tables.proofs.SpareRoom.{made_spare}
use Rattle.chan_tables.proofs.tables.Tables.make_room.Goals as goal

pub returns-clause-spare : goal.returns-clause-spare
returns-clause-spare c =
    let was = c.self.inside in
    made_spare was.shape was.session was.rows was.blocks was.looks was.history c.make_room.new.self c.step_room.result c.make_room.result c.step_room.ensures
    c.make_room.ensures.room c.make_room.ensures.made c.make_room.ensures.same
