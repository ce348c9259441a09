use Rattle.std.proofs.Common.{◌≡◌, ◌<◌, List, arith, sym, ap, subst, ◌∙◌, Some}
use Rattle.std.specs.Prelude.{IfSome, IsFalse, IsSome}
use Rattle.ssd_histories.specs.History.{look_of, open_looks}
use Rattle.ssd_histories.specs.OpenLooks.{look_at}
use Rattle.ssd_geo.specs.declared.entry.Entry.{Entry}
use Rattle.ssd_geo.specs.declared.look.Look.{Look}
use Rattle.ssd_geo.specs.declared.tag.Tag.{Tag}
use Rattle.chan_tables.specs.TablesState.{IsOfRow, TablesState, ends_uncorrectable}
use Rattle.chan_tables.proofs.EarlierLooks.{each_found, found_has, look_found}
use Rattle.chan_tables.proofs.Fits.{looks_of_tables}
use Rattle.chan_tables.proofs.Longer.{room_for_entry}
use Rattle.chan_tables.proofs.CondemnedTables.{condemned_tables, fit_condemn}
use Rattle.chan_tables.proofs.tables.Tables.condemned.Goals as goal

pub condemn_answer-answer-requires : goal.condemn_answer-answer-requires
condemn_answer-answer-requires c =
    let was = c.self.inside in
    let low : c.unwrap.result.1.row < was.shape.rows =
    found_has (IsOfRow was.shape.rows) was.looks c.args.at c.unwrap.result c.self.invariant.looks_rows (sym c.find.ensures ∙ c.unwrap.ensures) in
    omega (arith, low, c.self.invariant.rows_count)

pub lose_page-requires : goal.lose_page-requires
lose_page-requires c =
    let was = c.self.inside in
    let low : c.unwrap.result.1.row < was.shape.rows =
    found_has (IsOfRow was.shape.rows) was.looks c.args.at c.unwrap.result c.self.invariant.looks_rows (sym c.find.ensures ∙ c.unwrap.ensures) in
    omega (arith, low, c.self.invariant.rows_count)

pub push-requires-clause-room : goal.push-requires-clause-room
push-requires-clause-room c =
    let was = c.self.inside in
    let looks : ◌≡◌ {A = List (Tag × Look)} was.looks c.args.self.now.looks = ap {B = List (Tag × Look)} (λ (s : TablesState). s.looks) c.self.view_is in
    let some : IsSome (look_at was.looks c.args.at) = subst (λ (l : List (Tag × Look)). IsSome (look_at l c.args.at)) (sym looks) c.requires.is_open in
    (room_for_entry was.shape.rows was.history was.looks c.args.at some (looks_of_tables _ _ _ _ _ _ c.self.invariant)).0

pub push-requires-clause-limit : goal.push-requires-clause-limit
push-requires-clause-limit c =
    let was = c.self.inside in
    let looks : ◌≡◌ {A = List (Tag × Look)} was.looks c.args.self.now.looks = ap {B = List (Tag × Look)} (λ (s : TablesState). s.looks) c.self.view_is in
    let some : IsSome (look_at was.looks c.args.at) = subst (λ (l : List (Tag × Look)). IsSome (look_at l c.args.at)) (sym looks) c.requires.is_open in
    (room_for_entry was.shape.rows was.history was.looks c.args.at some (looks_of_tables _ _ _ _ _ _ c.self.invariant)).1

pub invariant_of-self : goal.invariant_of-self
invariant_of-self c =
    let was = c.self.inside in
    let looks : ◌≡◌ {A = List (Tag × Look)} was.looks c.args.self.now.looks = ap {B = List (Tag × Look)} (λ (s : TablesState). s.looks) c.self.view_is in
    let past : ◌≡◌ {A = List Entry} was.history.past c.args.self.now.past = ap {B = List Entry} (λ (s : TablesState). s.past) c.self.view_is in
    let some : IsSome (look_at was.looks c.args.at) = subst (λ (l : List (Tag × Look)). IsSome (look_at l c.args.at)) (sym looks) c.requires.is_open in
    let none : IsFalse (ends_uncorrectable was.history.past c.args.at) = subst (λ (p : List Entry). IsFalse (ends_uncorrectable p c.args.at)) (sym past) c.requires.not_uncorrectable in
    rw (c.lose_page.ensures, c.push.ensures, c.kind_of.ensures)
    (fit_condemn was.shape was.session was.rows was.blocks was.looks was.history c.unwrap.result.1 c.args.tag c.args.at c.condemn_answer-answer.result c.self.invariant some none)

pub returns-clause-new : goal.returns-clause-new
returns-clause-new c =
    let was = c.self.inside in
    let named : look_at (open_looks was.history.past) c.args.at ≡ Some c.unwrap.result =
    subst (λ (l : List (Tag × Look)). look_at l c.args.at ≡ Some c.unwrap.result) c.self.invariant.looks_are (sym c.find.ensures ∙ c.unwrap.ensures) in
    let found : look_of was.history.past c.args.at ≡ Some c.unwrap.result.1 = (look_found was.history.past c.args.at c.unwrap.result named).is_look in
    rw (c.lose_page.ensures, c.push.ensures, c.kind_of.ensures, ← c.self.view_is)
    (condemned_tables was.shape was.session was.rows was.blocks was.looks was.history c.unwrap.result.1 c.args.tag c.args.at c.condemn_answer-answer.result found)

pub returns-clause-in_rows : goal.returns-clause-in_rows
returns-clause-in_rows c =
    let was = c.self.inside in
    subst (λ (s : TablesState). IfSome (look_at s.looks c.args.at) (λ pin. pin.1.row < s.shape.rows)) c.self.view_is
    (each_found (IsOfRow was.shape.rows) was.looks c.args.at c.self.invariant.looks_rows)
