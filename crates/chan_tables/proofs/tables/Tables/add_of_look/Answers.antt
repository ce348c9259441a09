use Rattle.std.proofs.Common.{sym, subst}
use Rattle.std.specs.Prelude.{IsSome}
use Rattle.ssd_histories.specs.OpenLooks.{look_at}
use Rattle.ssd_histories.specs.SerialCalls.{entry_of}
use Rattle.chan_tables.specs.TablesState.{TablesState, UsesOne}
use Rattle.chan_tables.proofs.Fits.{fit_history, looks_of_tables}
use Rattle.chan_tables.proofs.Longer.{HasLooks, room_for_entry, used_longer}
use Rattle.chan_tables.proofs.tables.Tables.add_of_look.Goals as goal

pub push-requires-clause-room : goal.push-requires-clause-room
push-requires-clause-room c =
    let was = c.self.inside in
    let some : IsSome (look_at was.looks c.args.at) = subst (λ (s : TablesState). IsSome (look_at s.looks c.args.at)) (sym c.self.view_is) c.requires.open in
    let before : HasLooks was.shape.rows was.looks was.history = looks_of_tables was.shape was.session was.rows was.blocks was.looks was.history c.self.invariant in
    (room_for_entry was.shape.rows was.history was.looks c.args.at some before).0

pub push-requires-clause-limit : goal.push-requires-clause-limit
push-requires-clause-limit c =
    let was = c.self.inside in
    let some : IsSome (look_at was.looks c.args.at) = subst (λ (s : TablesState). IsSome (look_at s.looks c.args.at)) (sym c.self.view_is) c.requires.open in
    let before : HasLooks was.shape.rows was.looks was.history = looks_of_tables was.shape was.session was.rows was.blocks was.looks was.history c.self.invariant in
    (room_for_entry was.shape.rows was.history was.looks c.args.at some before).1

pub invariant_of-self : goal.invariant_of-self
invariant_of-self c =
    let was = c.self.inside in
    let some : IsSome (look_at was.looks c.args.at) = subst (λ (s : TablesState). IsSome (look_at s.looks c.args.at)) (sym c.self.view_is) c.requires.open in
    let uses : UsesOne was.history.past (entry_of c.args.tag c.args.kind) c.args.at =
    subst (λ (s : TablesState). UsesOne s.past (entry_of c.args.tag c.args.kind) c.args.at) (sym c.self.view_is) c.requires.uses in
    rw c.push.ensures
    (fit_history was.shape was.session was.rows was.blocks was.looks was.history was.looks _ c.self.invariant
    (used_longer was.shape.rows was.history was.looks c.args.tag c.args.kind c.args.at c.requires.keeps uses some
    (looks_of_tables was.shape was.session was.rows was.blocks was.looks was.history c.self.invariant)))
