-- Room made for one entry is there beside what open looks have set aside, and the entry may be added.
use Rattle.std.proofs.Common.{◌≡◌, ℕ, ◌+◌, ◌≤◌, ◌∷◌, List, length, ap, subst, sym, arith, Result, Ok, Err}
use Rattle.std.specs.Prelude.{OnOk}
use Rattle.allocator.specs.Superblocks.{Superblocks}
use Rattle.map_rows.specs.PageMap.{PageMap}
use Rattle.ssd_histories.specs.SerialCalls.{entry_of}
use Rattle.ssd_geo.specs.declared.kind.Kind.{Kind}
use Rattle.ssd_geo.specs.declared.look.Look.{Look}
use Rattle.ssd_geo.specs.declared.shape.Shape.{Shape}
use Rattle.ssd_geo.specs.declared.stop.StepStop.{StepStop}
use Rattle.ssd_geo.specs.declared.tag.Tag.{Tag}
use Rattle.chan_tables.specs.TablesState.{FitTogether, HasSpare, HistoryState, IsStopped, KeepsLooks, TablesState, room_of_step}
use Rattle.chan_tables.proofs.Fits.{fit_history, looks_of_tables}
use Rattle.chan_tables.proofs.Longer.{spare_longer}
use Rattle.chan_tables.proofs.MovedTables.{tables_of}
use Rattle.chan_tables.proofs.SetAside.{needed_few}

-- room that was made is spare
pub made_spare : {A : Type 0} (shape : Shape) (session : ℕ) (map : PageMap) (blocks : Superblocks) (looks : List (Tag × Look)) (old made : HistoryState) (needed : ℕ) (result : Result A StepStop)
    → needed ≡ room_of_step looks → IsStopped (length old.past + needed ≤ old.limit) (length old.past) result
    → OnOk result (length old.past + needed ≤ made.room) → made ≡ record old { room = made.room }
    → OnOk result (HasSpare (tables_of shape session map blocks looks made))
made_spare shape session map blocks looks old made needed (Ok answer) is limit room same =
    let count : length made.past ≡ length old.past = ap {B = ℕ} (λ (h : HistoryState). length h.past) same in
    let limits : made.limit ≡ old.limit = ap {B = ℕ} (λ (h : HistoryState). h.limit) same in
    let few = needed_few made.past looks in
    record { in_limit = omega (arith, few, count, limits, is, limit); in_room = omega (arith, few, count, is, room) }
made_spare shape session map blocks looks old made needed (Err stop) is limit room same = tt

-- an entry of a step outside a look
pub fit_entry : (shape : Shape) (session : ℕ) (map : PageMap) (blocks : Superblocks) (looks : List (Tag × Look)) (history : HistoryState) (tables : TablesState) (tag : Tag) (kind : Kind)
    → tables_of shape session map blocks looks history ≡ tables → HasSpare tables → KeepsLooks tag kind → FitTogether shape session map blocks looks history
    → FitTogether shape session map blocks looks (record history { past = entry_of tag kind ∷ history.past })
fit_entry shape session map blocks looks history tables tag kind view spare keeps fit =
    let here : HasSpare (tables_of shape session map blocks looks history) = subst HasSpare (sym view) spare in
    fit_history shape session map blocks looks history looks _ fit
    (spare_longer shape.rows history looks tag kind keeps here.in_limit here.in_room (looks_of_tables shape session map blocks looks history fit))
