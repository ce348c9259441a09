-- What does each step on a word of a lock tell the seat that makes it?
use Rattle.std.specs.Prelude.{◌≡◌, ◌≢◌, ℕ, zero, suc, ◌-◌, ◌%◌, ◌^◌, List, [], ◌∷◌, ◌++◌, drop, slice_index_or, Option, Some}
use Rattle.atomic_table.specs.Table.{Me, Step}
use Rattle.ssd_geo.specs.declared.entry.Entry.{Entry}
use Rattle.turn_table.specs.Kept.{EachGoesOn}
use Rattle.turn_table.specs.Passes.{GoesOn, longer}
use Rattle.turn_table.specs.Views.{numbers_in, part_of, view_at}
use Rattle.turn_table.specs.declared.view.Stage.TheVariants.{Away, Waiting, InTurn}
use Rattle.turn_table.specs.declared.view.View.{View}

-- so many numbers, from one on
abbrev pub numbers_from : ℕ → ℕ → List ℕ
numbers_from from zero = []
numbers_from from (suc count) = from ∷ numbers_from (suc from) count

-- the first view: it has the number 0, and all the others to give
abbrev pub first_view : ℕ → View
first_view passes = record (view_at Away 0 [] []) { gives = numbers_from 1 (passes - 1) }

-- a view that gave away its least number, and the view of who took that
abbrev pub split_left : View → View
split_left view = record view { gives = drop 1 view.gives }

abbrev pub split_right : View → View
split_right view = view_at Away (slice_index_or view.gives 0 255) [] view.seen

-- a view that took in another, and the view that is left of that
abbrev pub joined_view : View → View → View
joined_view one other =
    record one { ended = one.ended ++ numbers_in other; seen = longer one.seen other.seen; joined = part_of one ∷ part_of other ∷ [] }

abbrev pub spent_view : View
spent_view = view_at Away 255 [] []

abbrev pub Knower : Type 0 → Type 0
Knower V = Me (Option V) View

module _ {V : Type 0} where
  -- a ticket was drawn, of which the word had the rest by 2^64
  abbrev pub Draws : Step (Option V) → Knower V → ℕ → Knower V → Type 0
  Draws s me found after = (ticket : ℕ) × (ticket % 2 ^ 64 ≡ found) × (after ≡ (record me.0 { stage = Waiting ticket }, me.1))

  -- the seat has the slot, whose value stands for the start and for a list that goes on from what was seen
  abbrev pub IsInTurn : {S : Type 0} → (V → List Entry) → (V → S) → Option S → Knower V → Knower V → Type 0
  IsInTurn entries start begun me after =
      (value : V) × (begun ≡ Some (start value)) × GoesOn (numbers_in me.0) me.0.seen (entries value)
      × (after ≡ (record me.0 { seen = entries value; stage = InTurn }, (0, Some value) ∷ me.1))

  -- where the ticket that is served is the seat's own, the seat is in turn; else nothing changed
  abbrev pub Comes : {S : Type 0} → (V → List Entry) → (V → S) → Option S → Step (Option V) → Knower V → ℕ → Knower V → Type 0
  Comes entries start begun s me found after =
      (ticket : ℕ) → me.0.stage ≡ Waiting ticket
      → (found ≡ ticket % 2 ^ 64 → IsInTurn entries start begun me after) × (found ≢ ticket % 2 ^ 64 → after ≡ me)

  -- the seat gave the slot back, and has seen the list for which its value stands
  abbrev pub Ends : (V → List Entry) → Step (Option V) → Knower V → ℕ → Knower V → Type 0
  Ends entries s me found after =
      (value : V) → me.1 ≡ (0, Some value) ∷ [] → after ≡ (record me.0 { seen = entries value; stage = Away }, [])

  -- what was seen goes on from what each joined pass had seen
  abbrev pub Compares : Step (Option V) → Knower V → ℕ → Knower V → Type 0
  Compares s me found after = EachGoesOn me.0.joined me.0.seen × (after ≡ (record me.0 { joined = [] }, me.1))
