use Rattle.std.proofs.Common.{◌≡◌, List, sym, subst, ◌∙◌, Some}
use Rattle.ssd_histories.specs.History.{look_of, open_looks}
use Rattle.ssd_histories.specs.OpenLooks.{look_at}
use Rattle.ssd_geo.specs.declared.look.Look.{Look}
use Rattle.ssd_geo.specs.declared.tag.Tag.{Tag}
use Rattle.chan_tables.specs.TablesState.{TablesState}
use Rattle.chan_tables.proofs.EarlierLooks.{look_found}
use Rattle.chan_tables.proofs.MovedTables.{moved_tables}
use Rattle.chan_tables.proofs.tables.Tables.moved.Goals as goal

pub returns-clause-new : goal.returns-clause-new
returns-clause-new c =
    let was = c.self.inside in
    let named : look_at (open_looks was.history.past) c.args.at ≡ Some c.unwrap.result =
    subst (λ (l : List (Tag × Look)). look_at l c.args.at ≡ Some c.unwrap.result) c.self.invariant.looks_are (sym c.find.ensures ∙ c.unwrap.ensures) in
    let found : look_of was.history.past c.args.at ≡ Some c.unwrap.result.1 = (look_found was.history.past c.args.at c.unwrap.result named).is_look in
    let here : look_of c.args.self.now.past c.args.at ≡ Some c.unwrap.result.1 = subst (λ (s : TablesState). look_of s.past c.args.at ≡ Some c.unwrap.result.1) c.self.view_is found in
    rw (c.add_of_look.ensures, c.use_slot.ensures)
    (moved_tables c.args.self.now c.unwrap.result.1 c.args.tag c.args.at c.args.slot here)
