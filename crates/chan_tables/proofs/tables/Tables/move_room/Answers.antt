use Rattle.std.proofs.Common.{◌<◌, arith, sym, subst, ◌∙◌}
use Rattle.std.specs.Prelude.{IfSome}
use Rattle.ssd_histories.specs.OpenLooks.{look_at}
use Rattle.chan_tables.specs.TablesState.{IsOfRow, TablesState}
use Rattle.chan_tables.proofs.EarlierLooks.{each_found, found_has}
use Rattle.chan_tables.proofs.tables.Tables.move_room.Goals as goal

pub room_to_move-requires-clause-row : goal.room_to_move-requires-clause-row
room_to_move-requires-clause-row c =
    let was = c.self.inside in
    let low : c.unwrap.result.1.row < was.shape.rows =
    found_has (IsOfRow was.shape.rows) was.looks c.args.at c.unwrap.result c.self.invariant.looks_rows (sym c.find.ensures ∙ c.unwrap.ensures) in
    omega (arith, low, c.self.invariant.rows_count)

pub returns-clause-in_rows : goal.returns-clause-in_rows
returns-clause-in_rows c =
    let was = c.self.inside in
    subst (λ (s : TablesState). IfSome (look_at s.looks c.args.at) (λ pin. pin.1.row < s.shape.rows)) c.self.view_is
    (each_found (IsOfRow was.shape.rows) was.looks c.args.at c.self.invariant.looks_rows)
