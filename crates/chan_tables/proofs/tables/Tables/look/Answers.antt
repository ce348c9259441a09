use Rattle.std.proofs.Common.{◌≡◌, ◌<◌, ◌++◌, ◌∷◌, [], List, length, refl, subst, sym, None}
use Rattle.ssd_geo.specs.declared.kind.Kind.{Kind}
use Rattle.ssd_geo.specs.declared.look.Look.{Look}
use Rattle.ssd_geo.specs.declared.row.Row.{Row}
use Rattle.ssd_histories.specs.OpenLooks.{look_at}
use Rattle.ssd_geo.specs.declared.tag.Tag.{Tag}
use Rattle.chan_tables.specs.TablesState.{HistoryState, TablesState}
use Rattle.chan_tables.proofs.EarlierLooks.{none_began}
use Rattle.chan_tables.proofs.Fits.{fit_history, looks_of_tables}
use Rattle.chan_tables.proofs.Longer.{HasLooks, HasMade, opened_longer, unopened_longer}
use Rattle.chan_tables.proofs.tables.Tables.look.Goals as goal
use Rattle.chan_tables.proofs.tables.Tables.look.Goals.{in-Empty, in-Lost, in-Page+in_ok-pinned-in-Page}

pub invariant_of-self-2 : goal.invariant_of-self-2
invariant_of-self-2 c =
    let was = c.self.inside in
    let made : HistoryState = c.make_room.new.self in
    let closed = c.is_closed_page-closed.result in
    let has : HasMade was.history made c.look_room.result =
    record { same = c.make_room.ensures.same; in_limit = c.in_ok-make_room.ensures.room; in_room = c.in_ok-make_room.ensures.made } in
    let before : HasLooks was.shape.rows was.looks was.history = looks_of_tables was.shape was.session was.rows was.blocks was.looks was.history c.self.invariant in
    elim c.match-found.branch [
      | in-Empty w ↦ rw (c.push.ensures, w.self-inside-is, w.found-is, w.in-Empty.is)
          (fit_history was.shape was.session was.rows was.blocks was.looks was.history was.looks _ c.self.invariant
          (unopened_longer was.shape.rows was.history made was.looks c.args.tag (Kind.Look c.args.row Row.Empty closed) c.look_room.result (λ at looks. refl) c.look_room.ensures has before))
      | in-Lost w ↦ rw (c.push.ensures, w.self-inside-is, w.found-is, w.in-Lost.is)
          (fit_history was.shape was.session was.rows was.blocks was.looks was.history was.looks _ c.self.invariant
          (unopened_longer was.shape.rows was.history made was.looks c.args.tag (Kind.Look c.args.row Row.Lost closed) c.look_room.result (λ at looks. refl) c.look_room.ensures has before))
      | in-Page+in_ok-pinned-in-Page w ↦
          let look : Look = record { at = c.length-at.result; row = c.args.row; slot = w.in-Page.slot; serial = w.in-Page.serial; closed = closed } in
          let low : c.args.row < was.shape.rows = subst (λ (s : TablesState). c.args.row < s.shape.rows) (sym c.self.view_is) c.requires in
          rw (c.push.ensures, w.self-inside-is, w.in_ok-pinned-in-Page.ensures.ok, w.found-is)
          (fit_history was.shape was.session was.rows was.blocks was.looks was.history (was.looks ++ (c.args.tag, look) ∷ []) _ c.self.invariant
          (opened_longer was.shape.rows was.history made was.looks c.args.tag look c.look_room.result c.length-at.ensures.value low c.look_room.ensures has before))
    ]

pub returns-clause-is_first : goal.returns-clause-is_first
returns-clause-is_first c =
    let was = c.self.inside in
    let none : look_at was.looks (length was.history.past) ≡ None =
    subst (λ (looks : List (Tag × Look)). look_at looks (length was.history.past) ≡ None) (sym c.self.invariant.looks_are) (none_began was.history.past) in
    subst (λ (s : TablesState). look_at s.looks (length s.past) ≡ None) c.self.view_is none
