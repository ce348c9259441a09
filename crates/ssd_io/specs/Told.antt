-- Which bytes has a source left, where it tells them?
use Rattle.std.specs.Prelude.{ℕ, List, [], Option, Some, None}

-- the source tells the bytes that it has left
abbrev pub IsTold : Option (List ℕ) → Type 0
IsTold None = ⊥
IsTold (Some bytes) = Unit {0}

-- those bytes
abbrev pub told_bytes : Option (List ℕ) → List ℕ
told_bytes None = []
told_bytes (Some bytes) = bytes
