-- What does a seat at the table of a lock know? It is a pass on its way to the value and back.
use Rattle.std.specs.Prelude.{ℕ, List, [], ◌∷◌}
use Rattle.atomic_table.specs.Seated.{TableId}
use Rattle.ssd_geo.specs.declared.entry.Entry.{Entry}
use Rattle.turn_table.specs.Passes.{PassState}
use Rattle.turn_table.specs.declared.view.Part.{Part}
use Rattle.turn_table.specs.declared.view.Stage.{Stage}
use Rattle.turn_table.specs.declared.view.View.{View}

-- a view of a pass that has nothing to give and nothing to compare
abbrev pub view_at : Stage → ℕ → List ℕ → List Entry → View
view_at stage number ended seen =
    record { number = number; ended = ended; gives = []; seen = seen; joined = []; stage = stage }

abbrev pub view_of : Stage → PassState → View
view_of stage pass = view_at stage pass.number pass.ended pass.seen

-- the pass that a view is of
abbrev pub pass_of : TableId → View → PassState
pass_of lock view = record { lock = lock; number = view.number; ended = view.ended; seen = view.seen }

-- the pass of a seat that may be none
abbrev pub pass_in : TableId → List View → PassState
pass_in lock [] = record { lock = lock; number = 255; ended = []; seen = [] }
pass_in lock (view ∷ views) = pass_of lock view

-- the numbers of a view
abbrev pub numbers_in : View → List ℕ
numbers_in view = view.number ∷ view.ended

abbrev pub part_of : View → Part
part_of view = record { numbers = numbers_in view; seen = view.seen }
