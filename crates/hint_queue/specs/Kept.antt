-- What holds of a queue of pages between any two of its steps? The pages that wait stand behind those that were taken,
-- in the order in which all were pushed.
use Rattle.std.specs.Prelude.{◌≡◌, ◌≢◌, ◌⊎◌, ◌==◌, ◌++◌, ◌<◌, ◌≤◌, ℕ, List, [], ◌∷◌, length, map}
use Rattle.std.specs.List.{All, filter}
use mathlib.Core.Option.{some}
use lib.ListN.{get_elem?}
use Rattle.hint_queue.specs.Orders.{pages_by}
use Rattle.hint_queue.specs.declared.view.Dealing.{Dealing}
use Rattle.hint_queue.specs.declared.view.Noted.{Noted}
use Rattle.hint_queue.specs.declared.view.Part.{Part}
use Rattle.hint_queue.specs.declared.view.View.{View}
use Rattle.hint_queue.specs.declared.view.View.TheVariants.{New, Deals, Has}

-- a page that was taken: by which pass, and with the number of the pass that pushed it
pub record Took : Type 0 where
  pub by : ℕ
  pub noted : Noted

-- the pages that were taken, without the numbers of those who took them
abbrev pub noted_of : List Took → List Noted
noted_of taken = map (λ took. took.noted) taken

-- the pages that a pass took
abbrev pub taken_by : ℕ → List Took → List Noted
taken_by number taken = noted_of (filter (λ took. took.by == number) taken)

-- where a queue stands: how many passes it has, the bound of its pages, the order of all pages pushed and that of all
-- pages taken, and the seat of each pass
pub record Standing : Type 0 where
  pub passes : ℕ
  pub pages : ℕ
  pub pushed : List Noted
  pub taken : List Took
  pub seat_of : ℕ → ℕ

-- a seat has this pass, which did what the orders say of its number
pub record FitsPart (now : Standing) (seat : ℕ) (part : Part) : Type 0 where
  pub passes : part.passes ≡ now.passes
  pub pages : part.pages ≡ now.pages
  pub below : part.number < now.passes
  pub seat_is : now.seat_of part.number ≡ seat
  pub pushed : pages_by part.number now.pushed ≡ part.pushed
  pub taken : taken_by part.number now.taken ≡ part.taken

-- a number that no pass has yet, and that this seat deals
pub record IsUndealt (now : Standing) (seat number : ℕ) : Type 0 where
  pub seat_is : now.seat_of number ≡ seat
  pub pushed : pages_by number now.pushed ≡ []
  pub taken : taken_by number now.taken ≡ []

-- none of these passes has this number
abbrev pub Lack : List Part → ℕ → Type 0
Lack [] number = Unit {0}
Lack (part ∷ parts) number = (part.number ≢ number) × Lack parts number

-- a seat has these passes, each number once
abbrev pub EachFits : Standing → ℕ → List Part → Type 0
EachFits now seat [] = Unit {0}
EachFits now seat (part ∷ parts) = FitsPart now seat part × Lack parts part.number × EachFits now seat parts

pub record FitsDealing (now : Standing) (seat : ℕ) (dealing : Dealing) : Type 0 where
  pub passes : dealing.passes ≡ now.passes
  pub pages : dealing.pages ≡ now.pages
  pub undealt : (number : ℕ) → dealing.from ≤ number → number < now.passes → IsUndealt now seat number

-- what a seat knows is so
abbrev pub Fits : Standing → ℕ → View → Type 0
Fits now seat New = ⊥
Fits now seat (Deals dealing) = FitsDealing now seat dealing
Fits now seat (Has parts) = EachFits now seat parts

pub record IsOpen (items : List Noted) (views : List View) : Type 0 where
  pub now : Standing
  pub order : now.pushed ≡ noted_of now.taken ++ items
  pub pages : All (λ noted. noted.page < now.pages) now.pushed
  pub pushers : All (λ noted. noted.by < now.passes) now.pushed
  pub takers : All (λ took. took.by < now.passes) now.taken
  pub each_seat : (seat : ℕ) (view : View) → get_elem? views seat ≡ some view → Fits now seat view

-- a queue whose bound is not set yet is empty and has one seat
abbrev pub IsNew : List Noted → List View → Type 0
IsNew items views = (items ≡ []) × (views ≡ New ∷ [])

abbrev pub IsKept : List Noted → List View → Type 0
IsKept items views = IsNew items views ⊎ IsOpen items views
