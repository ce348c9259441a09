-- In which orders were the pages pushed and taken? Each page pushed stands in the first with the number of the pass that
-- pushed it, and each page taken in the second with the number of the pass that took it.
use Rattle.std.specs.Prelude.{◌≡◌, ◌⊎◌, ◌==◌, ◌++◌, ◌<◌, ◌≤◌, ℕ, zero, suc, Bool, true, false, List, [], ◌∷◌, length, map, take}
use Rattle.std.specs.List.{All, filter}
use Rattle.atomic_table.specs.Seated.{TableId}
use Rattle.hint_queue.specs.declared.view.Noted.{Noted}

-- a queue: which one it is, and where its counts are, how many passes it has, and the bound of its pages
pub record QueueState : Type 0 where
  pub queue : TableId
  pub counts : TableId
  pub passes : ℕ
  pub pages : ℕ

-- a pass: the queue that it is of, its number, the pages that it pushed and took, how many of those that it pushed it
-- knows to be taken, and whether it met the queue full
pub record HintPassState : Type 0 where
  pub queue : QueueState
  pub number : ℕ
  pub pushed : List ℕ
  pub taken : List ℕ
  pub known : ℕ
  pub met_full : Bool

-- a pass that did nothing yet
abbrev pub new_pass : QueueState → ℕ → HintPassState
new_pass queue number = record { queue = queue; number = number; pushed = []; taken = []; known = 0; met_full = false }

-- the passes of a new queue with these numbers: some of them, from one on
abbrev pub new_passes : QueueState → ℕ → ℕ → List HintPassState
new_passes queue from zero = []
new_passes queue from (suc count) = new_pass queue from ∷ new_passes queue (suc from) count

abbrev pub having_pushed : HintPassState → ℕ → HintPassState
having_pushed pass page = record pass { pushed = pass.pushed ++ page ∷ [] }

abbrev pub having_taken : HintPassState → ℕ → HintPassState
having_taken pass page = record pass { taken = pass.taken ++ page ∷ [] }

abbrev pub having_met_full : HintPassState → HintPassState
having_met_full pass = record pass { met_full = true }

-- a pass that knows all pages that it pushed to be taken
abbrev pub knowing_all_taken : HintPassState → HintPassState
knowing_all_taken pass = record pass { known = length pass.pushed }

-- one of these passes has a number
abbrev pub SomeHas : List HintPassState → ℕ → Type 0
SomeHas [] number = ⊥
SomeHas (pass ∷ passes) number = (number ≡ pass.number) ⊎ SomeHas passes number

-- these passes have all numbers below a count
abbrev pub HaveAll : ℕ → List HintPassState → Type 0
HaveAll count passes = (number : ℕ) → number < count → SomeHas passes number

abbrev pub pages_of : List Noted → List ℕ
pages_of order = map (λ noted. noted.page) order

-- the pages in an order that stand there with a number
abbrev pub pages_by : ℕ → List Noted → List ℕ
pages_by number order = pages_of (filter (λ noted. noted.by == number) order)

-- a pass in the orders of all pages pushed and taken: its pages stand there in its order, and those that it knows to be
-- taken stand among the first, of which there are as many as were taken
pub record Stands (pushed taken : List Noted) (pass : HintPassState) : Type 0 where
  pub pushes : pages_by pass.number pushed ≡ pass.pushed
  pub takes : pages_by pass.number taken ≡ pass.taken
  pub known : pass.known ≤ length (pages_by pass.number (take (length taken) pushed))
  pub met_full : pass.met_full ≡ true → 256 ≤ length pushed

-- what there is at the end: the two orders, of which the second is a prefix of the first
pub record AreInOrder (queue : QueueState) (passes : List HintPassState) : Type 0 where
  pub pushed : List Noted
  pub taken : List Noted
  pub left : List ℕ
  pub begins : pages_of pushed ≡ pages_of taken ++ left
  pub below : All (λ noted. noted.page < queue.pages) pushed
  pub pushers : All (λ noted. SomeHas passes noted.by) pushed
  pub takers : All (λ noted. SomeHas passes noted.by) taken
  pub each : All (Stands pushed taken) passes

-- at one moment so many pages waited, and the orders had these pages of the pass
pub record WereWaiting (pass : HintPassState) (count : ℕ) : Type 0 where
  pub pushed : List Noted
  pub taken : List Noted
  pub waiting : List ℕ
  pub begins : pages_of pushed ≡ pages_of taken ++ waiting
  pub count_is : length waiting ≡ count
  pub pushes : pages_by pass.number pushed ≡ pass.pushed
  pub takes : pages_by pass.number taken ≡ pass.taken
