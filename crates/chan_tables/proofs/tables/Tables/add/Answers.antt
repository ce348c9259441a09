use Rattle.chan_tables.proofs.SpareRoom.{fit_entry}
use Rattle.chan_tables.proofs.tables.Tables.add.Goals as goal

pub invariant_of-self : goal.invariant_of-self
invariant_of-self c =
    let was = c.self.inside in
    rw c.push.ensures
    (fit_entry was.shape was.session was.rows was.blocks was.looks was.history c.args.self.now c.args.tag c.args.kind c.self.view_is c.requires.spare c.requires.keeps c.self.invariant)
