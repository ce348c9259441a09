-- What does the decoder answer, and what does it leave in the word that it is lent?
use Rattle.std.specs.Prelude.{◌≡◌, ℕ, List, Option, Some, None}
use Rattle.ldpc_decode.specs.declared.outcome.Outcome.{Outcome}
use Rattle.ldpc_decode.specs.declared.outcome.Outcome.TheVariants.{Found, NotFound}

-- the outcome is that of the serial decoder: what is found is written, and else the word stays as it was
abbrev pub IsAnswer : Option (ℕ × List ℕ) → List ℕ → Outcome → List ℕ → Type 0
IsAnswer decoded before (Found iterations) after = decoded ≡ Some (iterations, after)
IsAnswer decoded before NotFound after = (decoded ≡ None) × (after ≡ before)
