-- Where does a seat at the table of a lock stand?
use Rattle.std.specs.List.{All}
use Rattle.std.specs.Prelude.{◌≡◌, ℕ, ◌<◌, ◌%◌, ◌^◌, List, [], ◌∷◌, Option, Some}
use Rattle.atomic_table.specs.declared.shared.Seat.{Seat}
use Rattle.ssd_geo.specs.declared.entry.Entry.{Entry}
use Rattle.turn_table.specs.Passes.{GoesOn, GoesOnFrom, PassState, having_seen}
use Rattle.turn_table.specs.Views.{numbers_in, pass_of, view_of}
use Rattle.turn_table.specs.declared.view.Stage.{Stage}
use Rattle.turn_table.specs.declared.view.Stage.TheVariants.{Waiting, InTurn}
use Rattle.turn_table.specs.declared.view.View.{View}

-- the seat of a pass that is at this stage and has these slots
abbrev pub IsAt : {V : Type 0} → PassState → Stage → List (ℕ × Option V) → Seat (Option V) View → Type 0
IsAt pass stage slots seat = (seat.table_id ≡ pass.lock) × (seat.me ≡ (view_of stage pass, slots))

-- the pass of a seat
abbrev pub pass_at : {V : Type 0} → Seat (Option V) View → PassState
pass_at seat = pass_of seat.table_id seat.me.0

-- the seat of a pass that waits with this ticket
abbrev pub Waits : {V : Type 0} → PassState → ℕ → Seat (Option V) View → Type 0
Waits pass found seat = (ticket : ℕ) × (ticket % 2 ^ 64 ≡ found) × IsAt pass (Waiting ticket) [] seat

-- the seat of a pass that has the slot, whose value stands for the start and for a list that goes on from what was seen
abbrev pub TookTurn : {V S : Type 0} → (V → List Entry) → (V → S) → Option S → PassState → Seat (Option V) View → Type 0
TookTurn {V} entries start begun pass seat =
    (value : V) × (begun ≡ Some (start value)) × GoesOnFrom pass (entries value)
    × IsAt (having_seen pass (entries value)) InTurn ((0, Some value) ∷ []) seat

-- the value that is left behind a lock stands for the start and for a list that goes on from what the last pass has seen
pub record IsLeft {V S : Type 0} (entries : V → List Entry) (start : V → S) (passes : ℕ) (begun : S) (view : View) (value : V) : Type 0 where
  pub begins : start value ≡ begun
  pub actors : All (λ entry. entry.tag.actor < passes) (entries value)
  pub goes_on : GoesOn (numbers_in view) view.seen (entries value)
