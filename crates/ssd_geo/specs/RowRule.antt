-- What does a check row tell each of its edges? The min-sum rule of the literature with a scale of 3/4: the least
-- magnitude of the other edges, scaled and rounded down, with the product of the others' signs. The scale, the
-- rounding and the sign of zero are this project's own.
use Rattle.std.specs.Prelude.{ℕ, ◌*◌, ◌/◌, ◌≤◌, min, Bool, true, false, not, List, [], ◌∷◌, map, length, ℤ, pos, negsuc, neg_ℤ, unsigned_abs, fold, remove}
use Rattle.std.specs.List.{range_with_len}

-- a number of at most this magnitude
abbrev pub IsWithin : ℕ → ℤ → Type 0
IsWithin bound n = unsigned_abs n ≤ bound

-- whether a number has the sign -; zero has +
abbrev pub is_negative : ℤ → Bool
is_negative (pos n) = false
is_negative (negsuc n) = true

-- whether two signs differ: their product is - exactly there
abbrev pub differ : Bool → Bool → Bool
differ false b = b
differ true b = not b

-- whether the product of the signs of a list is -
abbrev pub is_product_negative : List ℤ → Bool
is_product_negative [] = false
is_product_negative (x ∷ xs) = differ (is_negative x) (is_product_negative xs)

-- the least magnitude in a list that isn't empty
abbrev pub least_magnitude : List ℤ → ℕ
least_magnitude [] = 0
least_magnitude (x ∷ xs) = fold min (unsigned_abs x) (map unsigned_abs xs)

-- the number with this sign and magnitude
abbrev pub signed : Bool → ℕ → ℤ
signed false n = pos n
signed true n = neg_ℤ (pos n)

-- what one edge is told, from the numbers of all others
abbrev pub told_by : List ℤ → ℤ
told_by others = signed (is_product_negative others) (3 * least_magnitude others / 4)

-- what each edge of a check row is told, from the numbers of its edges
unfoldable pub row_rule : List ℤ → List ℤ
row_rule q = map (λ i. told_by (remove q i)) (range_with_len 0 (length q))
