-- How does a layer keep its numbers while it is worked? A number is kept as a code of 8 bits without a sign, so that
-- the top bit tells the sign. The code of block e and check row t stands at e * z + t.
use Rattle.std.specs.Prelude.{◌≡◌, ℕ, ◌+◌, ◌-◌, ◌*◌, ◌<◌, ◌≤◌, ◌==◌, if◌then◌else◌, List, map, length, ℤ, pos, ◌-ℤ◌, nat_le, remove, slice_index_or, unsigned_abs}
use Rattle.std.specs.List.{range_with_len}
use Rattle.ssd_geo.specs.RowRule.{is_product_negative, least_magnitude, row_rule}

-- the number that a code stands for
abbrev pub number_of : ℕ → ℤ
number_of code = pos 127 -ℤ pos code

-- what check row t is given on its first n edges
abbrev pub row_of : List ℕ → ℕ → ℕ → ℕ → List ℤ
row_of given z t n = map (λ e. number_of (slice_index_or given (e * z + t) 0)) (range_with_len 0 n)

-- the check rows below `rows` have told their edges what the row rule says
abbrev pub TellRows : List ℕ → ℕ → ℕ → List ℕ → ℕ → Type 0
TellRows given z degree told rows =
    (e u : ℕ) → e < degree → u < rows → number_of (slice_index_or told (e * z + u) 0) ≡ slice_index_or (row_rule (row_of given z u degree)) e (pos 0)

-- what the edges of the check rows from t on share, one row a lane: how near to 127 the two least magnitudes are, and in
-- the top bit the product of the signs
pub record AreExtremes (lanes : ℕ) (given : List ℕ) (z t degree : ℕ) (nearest second signs : List ℕ) : Type 0 where
  pub nearest_long : length nearest ≡ lanes
  pub second_long : length second ≡ lanes
  pub signs_long : length signs ≡ lanes
  pub nearest_within : (k : ℕ) → k < lanes → slice_index_or nearest k 0 ≤ 127
  pub second_within : (k : ℕ) → k < lanes → slice_index_or second k 0 ≤ 127
  pub least_of_others : (k i : ℕ) → k < lanes → i < degree → least_magnitude (remove (row_of given z (t + k) degree) i)
      ≡ (if unsigned_abs (slice_index_or (row_of given z (t + k) degree) i (pos 0)) == 127 - slice_index_or nearest k 0
      then 127 - slice_index_or second k 0
      else 127 - slice_index_or nearest k 0)
  pub negative : (k : ℕ) → k < lanes → nat_le 128 (slice_index_or signs k 0) ≡ is_product_negative (row_of given z (t + k) degree)

-- the code of a number that a row may tell, from -95 to 95
abbrev pub IsToldCode : ℕ → Type 0
IsToldCode code = (32 ≤ code) × (code ≤ 222)
