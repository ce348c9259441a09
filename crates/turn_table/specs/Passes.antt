-- What does a pass know of the history behind its lock? It has seen a list, which is a beginning of the history, and
-- no entry of its numbers stands behind that list.
use Rattle.std.specs.Prelude.{◌≡◌, ◌⊎◌, ℕ, ◌==◌, ◌<◌, ◌++◌, zero, suc, nat_le, cond, List, [], ◌∷◌, length}
use Rattle.std.specs.List.{filter}
use Rattle.atomic_table.specs.Seated.{TableId}
use Rattle.ssd_geo.specs.declared.entry.Entry.{Entry}

-- a pass: the lock that it is of, its number, or 255 where it has none, the numbers of the passes that ended in it, and
-- the list that it has seen
pub record PassState : Type 0 where
  pub lock : TableId
  pub number : ℕ
  pub ended : List ℕ
  pub seen : List Entry

-- a turn: the pass that took it, which has seen the list of the value as it was taken, and the value as it is now
pub record TurnState (V : Type 0) : Type 0 where
  pub pass : PassState
  pub value : V

-- a lock: which one it is, how many passes have a number, and the start of the value behind it
pub record LockState (S : Type 0) : Type 0 where
  pub lock : TableId
  pub passes : ℕ
  pub start : S

-- a number stands among some numbers
abbrev pub Has : List ℕ → ℕ → Type 0
Has [] number = ⊥
Has (x ∷ xs) number = (number ≡ x) ⊎ Has xs number

-- the entries of an actor in a list, in their order
abbrev pub entries_by : ℕ → List Entry → List Entry
entries_by number list = filter (λ entry. entry.tag.actor == number) list

-- a list goes on from what was seen: it begins with that, and no entry of these numbers stands behind it
pub record GoesOn (numbers : List ℕ) (seen list : List Entry) : Type 0 where
  pub rest : List Entry
  pub begins : list ≡ seen ++ rest
  pub own : (number : ℕ) → Has numbers number → entries_by number list ≡ entries_by number seen

-- the numbers of a pass: its own, and those that ended in it
abbrev pub numbers_of : PassState → List ℕ
numbers_of pass = pass.number ∷ pass.ended

-- a list goes on from what a pass has seen
abbrev pub GoesOnFrom : PassState → List Entry → Type 0
GoesOnFrom pass list = GoesOn (numbers_of pass) pass.seen list

-- a list is the one that a pass has seen, or has one entry more, which is the pass's own
abbrev pub AddsAtMostOne : PassState → List Entry → Type 0
AddsAtMostOne pass list =
    (list ≡ pass.seen) ⊎ ((entry : Entry) × (entry.tag.actor ≡ pass.number) × (list ≡ pass.seen ++ entry ∷ []))

-- the longer of two lists
abbrev pub longer : List Entry → List Entry → List Entry
longer one other = cond (nat_le (length other) (length one)) one other

-- a pass that another was joined to
abbrev pub joined_pass : PassState → PassState → PassState
joined_pass one other = record one { ended = one.ended ++ numbers_of other; seen = longer one.seen other.seen }

-- a pass after it has seen this list
abbrev pub having_seen : PassState → List Entry → PassState
having_seen pass list = record pass { seen = list }

-- a turn with this value
abbrev pub with_value : {V : Type 0} → TurnState V → V → TurnState V
with_value turn value = record { pass = turn.pass; value = value }

-- a pass that has seen nothing
abbrev pub new_pass : TableId → ℕ → PassState
new_pass lock number = record { lock = lock; number = number; ended = []; seen = [] }

-- the passes of a new lock with these numbers: some of them, from one on
abbrev pub new_passes : TableId → ℕ → ℕ → List PassState
new_passes lock from zero = []
new_passes lock from (suc count) = new_pass lock from ∷ new_passes lock (suc from) count

-- the pass without a number that is split off one
abbrev pub nameless : PassState → PassState
nameless pass = record { lock = pass.lock; number = 255; ended = []; seen = pass.seen }

-- one of these passes has a number
abbrev pub SomeHas : List PassState → ℕ → Type 0
SomeHas [] number = ⊥
SomeHas (pass ∷ passes) number = Has (numbers_of pass) number ⊎ SomeHas passes number

-- these passes have all numbers below a count among their own
abbrev pub HaveAll : ℕ → List PassState → Type 0
HaveAll count passes = (number : ℕ) → number < count → SomeHas passes number

-- a pass has the numbers of another, and has seen a list that goes on from what that one has seen
pub record Includes (pass other : PassState) : Type 0 where
  pub list : GoesOnFrom other pass.seen
  pub numbers : (number : ℕ) → Has (numbers_of other) number → Has (numbers_of pass) number
