-- When has a count of faults risen? A count is a u64 that stays at its greatest value once it is there, so of a
-- count that stands there a rise is said to hold. Code that is generic over what counts can't raise a count by
-- itself: an answer that comes only where the count rose in its call has its cause outside that code.
use Rattle.std.specs.Prelude.{ℕ, ◌+◌, ◌-◌, ◌^◌, ◌≤◌, min, Result, OnErr}

-- the greatest value that a count can have
abbrev pub greatest_count : ℕ
greatest_count = 2 ^ 64 - 1

-- a count after some more faults
abbrev pub count_after : ℕ → ℕ → ℕ
count_after before faults = min (before + faults) greatest_count

-- the count rose by at least so many faults
abbrev pub RoseBy : ℕ → ℕ → ℕ → Type 0
RoseBy faults before now = count_after before faults ≤ now

-- the count rose
abbrev pub Rose : ℕ → ℕ → Type 0
Rose before now = RoseBy 1 before now

-- the count is as it was or above
abbrev pub NeverFell : ℕ → ℕ → Type 0
NeverFell before now = before ≤ now

-- An answer and its cause: the count didn't fall, and an error comes only where it rose.
pub record HasCause {T E : Type 0} (before now : ℕ) (result : Result T E) : Type 0 where
  pub never_fell : NeverFell before now
  pub failed : OnErr result (Rose before now)
