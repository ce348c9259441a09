-- What does each step of a queue of pages tell the seat that makes it?
use Rattle.std.specs.Prelude.{◌≡◌, ◌+◌, ◌++◌, ◌<◌, ℕ, List, [], ◌∷◌}
use Rattle.hint_queue.specs.Kept.{EachFits, IsOpen}
use Rattle.hint_queue.specs.declared.view.Dealing.{Dealing}
use Rattle.hint_queue.specs.declared.view.Noted.{Noted}
use Rattle.hint_queue.specs.declared.view.Part.{Part}
use Rattle.hint_queue.specs.declared.view.View.{View}
use Rattle.hint_queue.specs.declared.view.View.TheVariants.{New, Deals, Has}

-- a seat without a pass
abbrev pub spent : View
spent = Has []

-- the seat that deals all passes
abbrev pub opened : ℕ → ℕ → View
opened passes pages = Deals (record { passes = passes; pages = pages; from = 0 })

-- a pass that did nothing yet
abbrev pub new_part : ℕ → ℕ → ℕ → Part
new_part passes pages number = record { passes = passes; pages = pages; number = number; pushed = []; taken = [] }

-- the seat that deals, after it dealt a pass, and the seat of that pass
abbrev pub deal_left : View → View
deal_left New = New
deal_left (Deals dealing) = Deals (record dealing { from = dealing.from + 1 })
deal_left (Has parts) = Has parts

abbrev pub deal_right : View → View
deal_right New = spent
deal_right (Deals dealing) = Has (new_part dealing.passes dealing.pages dealing.from ∷ [])
deal_right (Has parts) = spent

-- the passes of a seat
abbrev pub parts_of : View → List Part
parts_of New = []
parts_of (Deals dealing) = []
parts_of (Has parts) = parts

-- a seat that took in another
abbrev pub gathered : View → View → View
gathered one other = Has (parts_of other ++ parts_of one)

-- a pass after it pushed a page, and after it took one
abbrev pub pushed_part : Part → ℕ → Part
pushed_part part page = record part { pushed = part.pushed ++ page ∷ [] }

abbrev pub taken_part : Part → Noted → Part
taken_part part noted = record part { taken = part.taken ++ noted ∷ [] }

abbrev pub pushed_parts : List Part → ℕ → List Part
pushed_parts [] page = []
pushed_parts (part ∷ parts) page = pushed_part part page ∷ parts

abbrev pub taken_parts : List Part → Noted → List Part
taken_parts [] noted = []
taken_parts (part ∷ parts) noted = taken_part part noted ∷ parts

-- a page is below the bound, and one of the passes pushed it
abbrev pub IsWithin : List Part → Noted → Type 0
IsWithin [] noted = Unit {0}
IsWithin (part ∷ parts) noted = (noted.page < part.pages) × (noted.by < part.passes)

abbrev pub Pushed : View → Noted → View → Type 0
Pushed view noted after = after ≡ Has (pushed_parts (parts_of view) noted.page)

abbrev pub Taken : View → Noted → View → Type 0
Taken view noted after = (after ≡ Has (taken_parts (parts_of view) noted)) × IsWithin (parts_of view) noted

-- the orders in which the passes of a seat have their places, where these pages wait
abbrev pub Waiting : View → List Noted → Type 0
Waiting view items = (views : List View) × (kept : IsOpen items views) × (seat : ℕ) × EachFits kept.now seat (parts_of view)
