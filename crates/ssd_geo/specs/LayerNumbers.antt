-- Which lists of numbers belong to a layer? It is the condition under which a layer is worked.
use Rattle.std.specs.Prelude.{◌≡◌, ℕ, ◌+◌, ◌*◌, ◌<◌, ◌≤◌, List, map, length, ℤ, All}
use Rattle.std.specs.List.Sorted.{IsStrictlyIncreasing}
use Rattle.ssd_geo.specs.RowRule.{IsWithin}

-- a layer for lifting size z: 2 to 128 blocks with rising columns, each shift below z
pub record IsLayer (z : ℕ) (layer : List (ℕ × ℕ)) : Type 0 where
  pub at_least : 2 ≤ length layer
  pub at_most : length layer ≤ 128
  pub rising : IsStrictlyIncreasing (map (λ block. block.0) layer)
  pub shifts : All (λ block. block.1 < z) layer

-- the numbers of the variables and of the layer's edges: there is one for each, and all are within their bounds
pub record AreNumbersOf (z : ℕ) (layer : List (ℕ × ℕ)) (p r : List ℤ) : Type 0 where
  pub columns : All (λ block. (block.0 + 1) * z ≤ length p) layer
  pub edges : length r ≡ length layer * z
  pub p_within : All (IsWithin 222) p
  pub r_within : All (IsWithin 95) r
