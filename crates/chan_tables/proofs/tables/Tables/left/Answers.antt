use Rattle.std.proofs.Common.{◌≡◌, sym, ap, subst, List}
use Rattle.std.specs.Prelude.{IsSome}
use Rattle.ssd_histories.specs.OpenLooks.{look_at}
use Rattle.ssd_geo.specs.declared.look.Look.{Look}
use Rattle.ssd_geo.specs.declared.tag.Tag.{Tag}
use Rattle.chan_tables.specs.TablesState.{TablesState}
use Rattle.chan_tables.proofs.Fits.{fit_history, looks_of_tables}
use Rattle.chan_tables.proofs.Longer.{HasLooks, left_longer, room_for_entry}
use Rattle.chan_tables.proofs.tables.Tables.left.Goals as goal

pub push-requires-clause-room : goal.push-requires-clause-room
push-requires-clause-room c =
    let was = c.self.inside in
    let looks : ◌≡◌ {A = List (Tag × Look)} was.looks c.args.self.now.looks = ap {B = List (Tag × Look)} (λ (s : TablesState). s.looks) c.self.view_is in
    let some : IsSome (look_at was.looks c.args.at) = subst (λ (l : List (Tag × Look)). IsSome (look_at l c.args.at)) (sym looks) c.requires in
    let before : HasLooks was.shape.rows was.looks was.history = looks_of_tables was.shape was.session was.rows was.blocks was.looks was.history c.self.invariant in
    (room_for_entry was.shape.rows was.history was.looks c.args.at some before).0

pub push-requires-clause-limit : goal.push-requires-clause-limit
push-requires-clause-limit c =
    let was = c.self.inside in
    let looks : ◌≡◌ {A = List (Tag × Look)} was.looks c.args.self.now.looks = ap {B = List (Tag × Look)} (λ (s : TablesState). s.looks) c.self.view_is in
    let some : IsSome (look_at was.looks c.args.at) = subst (λ (l : List (Tag × Look)). IsSome (look_at l c.args.at)) (sym looks) c.requires in
    let before : HasLooks was.shape.rows was.looks was.history = looks_of_tables was.shape was.session was.rows was.blocks was.looks was.history c.self.invariant in
    (room_for_entry was.shape.rows was.history was.looks c.args.at some before).1

pub invariant_of-self : goal.invariant_of-self
invariant_of-self c =
    let was = c.self.inside in
    let looks : ◌≡◌ {A = List (Tag × Look)} was.looks c.args.self.now.looks = ap {B = List (Tag × Look)} (λ (s : TablesState). s.looks) c.self.view_is in
    let some : IsSome (look_at was.looks c.args.at) = subst (λ (l : List (Tag × Look)). IsSome (look_at l c.args.at)) (sym looks) c.requires in
    let before : HasLooks was.shape.rows was.looks was.history = looks_of_tables was.shape was.session was.rows was.blocks was.looks was.history c.self.invariant in
    rw (c.unpin.ensures.after, c.push.ensures)
    (fit_history was.shape was.session was.rows was.blocks was.looks was.history _ _ c.self.invariant
    (left_longer was.shape.rows was.history was.looks c.args.tag c.args.at some before))
