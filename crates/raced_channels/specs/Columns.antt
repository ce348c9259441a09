-- Which pass stands where, once rows of passes are made into columns? Column n has the passes that stand at n in the rows, in
-- the order of the rows.
use Rattle.std.specs.Prelude.{ℕ, ◌≡◌, List, length, map, slice_get, Some}
use Rattle.turn_table.specs.Passes.{PassState}

abbrev pub IsColumn : List (List PassState) → ℕ → List PassState → Type 0
IsColumn rows number column =
    map (λ (pass : PassState). Some pass) column ≡ map (λ (row : List PassState). slice_get row number) rows

-- so many columns of some rows
pub record AreColumns (width : ℕ) (rows columns : List (List PassState)) : Type 0 where
  pub as_many : length columns ≡ width
  pub each : (number : ℕ) (column : List PassState) → slice_get columns number ≡ Some column → IsColumn rows number column
