-- A step that was refused adds nothing to what its call made, and a step that wasn't tried is as one that was refused.
use Rattle.std.proofs.Common.{ℕ, ◌+◌, ◌≤◌, List, [], length, refl, arith, inl, inr, ◌⊎◌}
use Rattle.std.specs.Prelude.{Err}
use Rattle.chan_calls.specs.Caller.{CallerView, Comes, HasLookRoom}
use Rattle.chan_calls.specs.Stepping.{IsStepped}
use Rattle.chan_tables.specs.TablesState.{room_of_look}
use Rattle.ssd_geo.specs.declared.entry.Entry.{Entry}
use Rattle.ssd_geo.specs.declared.stop.StepStop.{StepStop}
use Rattle.ssd_geo.specs.declared.tag.Tag.{Tag}
use Rattle.ssd_histories.specs.History.{open_looks}
use Rattle.calls_among_others.specs.StepsAmong.{HasCome}
use Rattle.calls_among_others.proofs.AmongCopies.{came}
use Rattle.calls_among_others.proofs.AmongSteps.{came_same, came_then}

-- a step that was refused adds nothing
pub refused_came : {A : Type 0} (has_room : ℕ → List Entry → Type 0) (makes : List Entry → A → List Entry → Type 0) (tag : Tag)
    (old new : CallerView) (stop : StepStop) → IsStepped has_room makes tag old new (Err stop) →
    HasCome tag.actor old.seen new.seen
refused_came has_room makes tag old new (StepStop.HistoryFull told) made =
    came_then tag.actor old.seen made.0 new.seen (came old tag made.0 made.1) (came_same tag.actor made.0 new.seen made.4)
refused_came has_room makes tag old new StepStop.Memory made =
    came_then tag.actor old.seen made.0 new.seen (came old tag made.0 made.1) (came_same tag.actor made.0 new.seen made.3)

-- nothing comes to what was seen
comes_itself : (caller : CallerView) (tag : Tag) → Comes caller tag caller.seen
comes_itself caller tag = record {
  others = [];
  now_is = refl;
  of_others = λ k d low. absurd (omega arith);
  none_alone = λ _. refl;
  looks_stay = λ _. refl;
  senses_stay = λ _ _. refl;
  faults_stay = λ _ _. refl;
  recovered_stay = λ _ _. refl;
  uncorrectable_stay = λ _ _. refl;
}

-- a look that wasn't tried is as one that was refused, for one cause or the other
pub record IsRefused {A : Type 0} (makes : List Entry → A → List Entry → Type 0) (tag : Tag) (caller : CallerView) : Type 0 where
  pub stop : StepStop
  pub refused : IsStepped HasLookRoom makes tag caller caller (Err stop)

room_or_none : (a b : ℕ) → (a ≤ b) ⊎ (a ≤ b → ⊥)
room_or_none a b = grind arith

pub not_tried : {A : Type 0} (makes : List Entry → A → List Entry → Type 0) (tag : Tag) (caller : CallerView) →
    IsRefused makes tag caller
not_tried makes tag caller =
    elim (room_or_none (length caller.seen + room_of_look (open_looks caller.seen)) caller.limit) [
      | inl room ↦ record {
        stop = StepStop.Memory;
        refused = (caller.seen, comes_itself caller tag, room, refl);
      }
      | inr none ↦ record {
        stop = StepStop.HistoryFull (length caller.seen);
        refused = (caller.seen, comes_itself caller tag, none, refl, refl);
      }
    ]
