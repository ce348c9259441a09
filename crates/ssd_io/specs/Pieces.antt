-- What does a sink take of a piece? At least one byte and at most all of it, from the front, or nothing where it
-- fails.
use Rattle.std.specs.Prelude.{ℕ, ◌<◌, ◌≤◌, List, length, take, Option, Result, IfOk}
use Rattle.std.specs.Io.KnownBytes.{Appends}

-- some bytes of the piece were taken, and no more than it has
abbrev pub TakesSome : {E : Type 0} → Result ℕ E → List ℕ → Type 0
TakesSome result piece = IfOk result (λ n. (0 < n) × (n ≤ length piece))

-- known bytes grew by a front of these bytes, which isn't all of them
abbrev pub AppendsFront : Option (List ℕ) → Option (List ℕ) → List ℕ → Type 0
AppendsFront old new bytes = (n : ℕ) × (n < length bytes) × Appends old new (take n bytes)
