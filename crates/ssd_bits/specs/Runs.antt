-- What does a sum of a run of bits change? A run is n bits one after the other from a place on. Adding a run of the
-- source to a run of the destination changes the bits of that run alone.
use Rattle.std.specs.Prelude.{◌≡◌, ℕ, ◌+◌, ◌%◌, ◌<◌, ◌≤◌, ◌==◌, ◌⊎◌, Bool, List}
use Rattle.std.specs.Int.{bit_at}
use Rattle.ssd_geo.specs.Bits.{bit_of, bit_sum}

-- each bit of the run from a place on has the bit that a function gives for it added; all other bits stay
pub record AddsBits (old new : List ℕ) (at n : ℕ) (bit : ℕ → Bool) : Type 0 where
  pub inside : (r : ℕ) → r < n → bit_of new (at + r) ≡ bit_sum (bit_of old (at + r)) (bit r)
  pub outside : (i : ℕ) → (i < at) ⊎ (at + n ≤ i) → bit_of new i ≡ bit_of old i

-- the n bits from a place on have the n bits of the source from its place on added
abbrev pub AddsRun : List ℕ → List ℕ → ℕ → List ℕ → ℕ → ℕ → Type 0
AddsRun old new at src from n = AddsBits old new at n (λ r. bit_of src (from + r))

-- the block of z bits from a place on has the source's block added, turned by a shift: bit r has bit
-- (r + shift) mod z of that block added
abbrev pub AddsRotated : List ℕ → List ℕ → ℕ → List ℕ → ℕ → ℕ → ℕ → Type 0
AddsRotated old new at src from z shift = AddsBits old new at z (λ r. bit_of src (from + (r + shift) % z))

-- whether bit k of a number is 1
abbrev pub is_one : ℕ → ℕ → Bool
is_one n k = bit_at n k == 1
