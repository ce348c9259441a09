-- What do contracts see of the memory for working layers? For which it is made.
use Rattle.std.specs.Prelude.{◌≡◌, ℕ, ◌⊎◌}

-- memory for layers of lifting size z with at most `degree` blocks
pub record WorkSize : Type 0 where
  pub z : ℕ
  pub degree : ℕ

-- how many check rows may be worked at once
abbrev pub IsLaneCount : ℕ → Type 0
IsLaneCount n = (n ≡ 1) ⊎ ((n ≡ 4) ⊎ ((n ≡ 8) ⊎ ((n ≡ 16) ⊎ (n ≡ 32))))
