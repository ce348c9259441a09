-- Rows that are cut once more.
use Rattle.std.proofs.Common.{ℕ, zero, suc, ◌≡◌, ◌+◌, ◌<◌, ◌≤◌, List, [], ◌∷◌, ◌++◌, drop, length, map, get_or, slice_get, Some, refl, sym, ap, subst, ◌∙◌, arith, length-append}
use Rattle.std.specs.List.{All}
use Rattle.std.proofs.lemmas.List.{drop-drop, get_or-map, length-drop, length-map, map-append}
use Rattle.std.proofs.lemmas.Simd.{map-map}
use Rattle.turn_table.specs.Passes.{PassState}
use Rattle.raced_channels.specs.Columns.{AreColumns, IsColumn}
use Rattle.raced_channels.proofs.Grown.{grown}

-- as many rows are left
as_many : {V : Type 0} (items : V → List PassState) (rows initial : List V) (n : ℕ)
    → map items rows ≡ map (λ (row : V). drop n (items row)) initial → length rows ≡ length initial
as_many {V = V} items rows initial n left =
    sym (length-map rows items) ∙ ap (λ (all : List (List PassState)). length all) left
    ∙ length-map initial (λ (row : V). drop n (items row))

-- a row of which less was cut than it had has a pass
pub are_long : {V : Type 0} (items : V → List PassState) (rows initial : List V) (n width : ℕ)
    → map items rows ≡ map (λ (row : V). drop n (items row)) initial → All (λ (row : V). length (items row) ≡ width) initial → n < width
    → All (λ (row : V). 1 ≤ length (items row)) rows
are_long {V = V} items rows initial n width left long below = λ k d within.
    let many : length rows ≡ length initial = as_many items rows initial n left in
    let is : items (get_or rows k d) ≡ drop n (items (get_or initial k d)) =
    sym (get_or-map items rows k d [] within) ∙ ap (λ (all : List (List PassState)). get_or all k []) left
    ∙ get_or-map (λ (row : V). drop n (items row)) initial k d [] (omega (arith, many, within)) in
    omega (arith, ap (λ (row : List PassState). length row) is, length-drop n (items (get_or initial k d)), long k d (omega (arith, many, within)))

peeled : {V : Type 0} (items : V → List PassState) (n : ℕ) (rows : List V)
    → map (λ (row : List PassState). drop 1 row) (map (λ (row : V). drop n (items row)) rows) ≡ map (λ (row : V). drop (n + 1) (items row)) rows
peeled items n [] = refl
peeled items n (row ∷ rows) = rw (drop-drop 1 n (items row), peeled items n rows) refl

-- what is left after one cut more
pub cut_more : {V : Type 0} (items : V → List PassState) (rows initial rest : List V) (n : ℕ)
    → map items rows ≡ map (λ (row : V). drop n (items row)) initial → map items rest ≡ map (λ (row : V). drop 1 (items row)) rows
    → map items rest ≡ map (λ (row : V). drop (n + 1) (items row)) initial
cut_more items rows initial rest n left cut =
    cut ∙ sym (map-map (λ (row : List PassState). drop 1 row) items rows)
    ∙ ap (λ (all : List (List PassState)). map (λ (row : List PassState). drop 1 row) all) left ∙ peeled items n initial

first_left : {A : Type 0} (n : ℕ) (xs : List A) → slice_get (drop n xs) 0 ≡ slice_get xs n
first_left zero xs = refl
first_left (suc n) [] = refl
first_left (suc n) (x ∷ xs) = first_left n xs

heads : {V : Type 0} (items : V → List PassState) (n : ℕ) (rows : List V)
    → map (λ (row : List PassState). slice_get row 0) (map (λ (row : V). drop n (items row)) rows)
    ≡ map (λ (row : List PassState). slice_get row n) (map items rows)
heads items n [] = refl
heads items n (row ∷ rows) =
    rw (first_left n (items row), heads items n rows) refl

-- the passes that were cut are a column
is_column : {V : Type 0} (items : V → List PassState) (rows initial : List V) (column : List PassState) (n : ℕ)
    → map items rows ≡ map (λ (row : V). drop n (items row)) initial
    → map (λ (pass : PassState). Some pass) column ≡ map (λ (row : V). slice_get (items row) 0) rows
    → IsColumn (map items initial) n column
is_column items rows initial column n left cut =
    cut ∙ sym (map-map (λ (row : List PassState). slice_get row 0) items rows)
    ∙ ap (λ (all : List (List PassState)). map (λ (row : List PassState). slice_get row 0) all) left ∙ heads items n initial

-- and one column more
pub one_column_more : {V : Type 0} (items : V → List PassState) (rows initial columns after : List V) (column : V) (n : ℕ)
    → map items rows ≡ map (λ (row : V). drop n (items row)) initial
    → map (λ (pass : PassState). Some pass) (items column) ≡ map (λ (row : V). slice_get (items row) 0) rows
    → after ≡ columns ++ column ∷ [] → AreColumns n (map items initial) (map items columns)
    → AreColumns (n + 1) (map items initial) (map items after)
one_column_more {V = V} items rows initial columns after column n left cut more are =
    let grows : map items after ≡ map items columns ++ items column ∷ [] =
    ap (λ (all : List V). map items all) more ∙ map-append items columns (column ∷ []) in
    subst (λ (all : List (List PassState)). AreColumns (n + 1) (map items initial) all) (sym grows)
    (record {
      as_many = omega (arith, length-append (map items columns) (items column ∷ []), are.as_many);
      each =
          grown (λ (k : ℕ) (one : List PassState). IsColumn (map items initial) k one) (map items columns) (items column) n (sym are.as_many)
          are.each (is_column items rows initial (items column) n left cut);
    })
