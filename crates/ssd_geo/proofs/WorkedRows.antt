-- What a layer leaves, check row by check row: each row is worked as on the numbers that the layer began with, since
-- the rows share no variable and no edge.
use Rattle.std.proofs.Common.{◌≡◌, ◌≢◌, ℕ, zero, suc, ◌+◌, ◌*◌, ◌%◌, ◌<◌, ◌≤◌, List, [], ◌∷◌, length, get_or, set, ℤ, pos, All, inl, inr, refl, sym, ap, ◌∙◌, arith, get_or-set_other, get_or-set_same}
use Rattle.std.specs.List.{remove}
use Rattle.std.proofs.lemmas.Bool.{cases_eq}
use Rattle.std.proofs.lemmas.List.{get_or-map, length-map, length-set}
use Rattle.std.proofs.lemmas.List.FromFn.{get_or-map-range_with_len, length-map-range_with_len}
use Rattle.std.proofs.lemmas.Nat.{same_from_place, mul-add-lt}
use Rattle.std.proofs.Math.Nat.{mod-lt}
use Rattle.ssd_geo.specs.Decoding.{edges_of, given_of, picked, placed, row_worked, rows_worked, sums_of}
use Rattle.ssd_geo.specs.Layer.{variable_of, variables_of}
use Rattle.ssd_geo.specs.LayerNumbers.{IsLayer}
use Rattle.ssd_geo.specs.RowRule.{row_rule, told_by}
use Rattle.ssd_geo.proofs.ApartRows.{one_block_and_row}
use Rattle.ssd_geo.proofs.FoundWords.{length-placed, length-rows}

-- what check row t is given on the numbers of the variables and of the edges
abbrev pub row_given : List (ℕ × ℕ) → ℕ → ℕ → List ℤ × List ℤ → List ℤ
row_given layer z t s = given_of (picked s.0 (variables_of layer z t)) (picked s.1 (edges_of (length layer) z t))

-- ---- numbers put at places

placed_other : (xs : List ℤ) (places : List ℕ) (ys : List ℤ) (i : ℕ) → ((k : ℕ) → k < length places → get_or places k 0 ≢ i) → get_or (placed xs places ys) i (pos 0) ≡ get_or xs i (pos 0)
placed_other xs [] ys i h = refl
placed_other xs (p ∷ places) [] i h = refl
placed_other xs (p ∷ places) (y ∷ ys) i h =
    let ne : i ≢ p = λ e. h 0 (omega arith) (sym e) in
    placed_other (set xs p y) places ys i (λ k l. h (suc k) (omega arith)) ∙ get_or-set_other xs p i y (pos 0) ne

placed_at : (xs : List ℤ) (places : List ℕ) (ys : List ℤ) (k : ℕ) → ((a b : ℕ) → a < length places → b < length places → get_or places a 0 ≡ get_or places b 0 → a ≡ b) → k < length places → k < length ys → get_or places k 0 < length xs → get_or (placed xs places ys) (get_or places k 0) (pos 0) ≡ get_or ys k (pos 0)
placed_at xs [] ys k distinct l m within = absurd (omega arith)
placed_at xs (p ∷ places) [] k distinct l m within = absurd (omega arith)
placed_at xs (p ∷ places) (y ∷ ys) zero distinct l m within =
    placed_other (set xs p y) places ys p (λ k q e. let clash : suc k ≡ 0 = distinct (suc k) 0 (omega arith) (omega arith) e in absurd (omega arith))
    ∙ get_or-set_same xs p y (pos 0) within
placed_at xs (p ∷ places) (y ∷ ys) (suc k) distinct l m within =
    placed_at (set xs p y) places ys k
    (λ a b q r e. let same : suc a ≡ suc b = distinct (suc a) (suc b) (omega arith) (omega arith) e in omega arith)
    (omega arith) (omega arith) (omega (arith, length-set xs p y))

picked_same : (xs ys : List ℤ) (places : List ℕ) → ((k : ℕ) → k < length places → get_or xs (get_or places k 0) (pos 0) ≡ get_or ys (get_or places k 0) (pos 0)) → picked xs places ≡ picked ys places
picked_same xs ys [] h = refl
picked_same xs ys (p ∷ places) h =
    ap (λ (z : ℤ). z ∷ picked xs places) (h 0 (omega arith)) ∙ ap (λ (zs : List ℤ). get_or ys p (pos 0) ∷ zs) (picked_same xs ys places (λ k l. h (suc k) (omega arith)))

-- ---- the places of a row

pub variable_at : (layer : List (ℕ × ℕ)) (z t e : ℕ) → e < length layer → get_or (variables_of layer z t) e 0 ≡ variable_of z t (get_or layer e (0, 0))
variable_at layer z t e h = get_or-map (variable_of z t) layer e (0, 0) 0 h

pub edge_at : (blocks z t e : ℕ) → e < blocks → get_or (edges_of blocks z t) e 0 ≡ e * z + t
edge_at blocks z t e h = get_or-map-range_with_len (λ k. k * z + t) 0 blocks e e 0 h (omega arith)

edge_count_is : (blocks z t : ℕ) → length (edges_of blocks z t) ≡ blocks
edge_count_is blocks z t = length-map-range_with_len (λ k. k * z + t) 0 blocks

variable_count_is : (layer : List (ℕ × ℕ)) (z t : ℕ) → length (variables_of layer z t) ≡ length layer
variable_count_is layer z t = length-map layer (variable_of z t)

variables_distinct : (z : ℕ) (layer : List (ℕ × ℕ)) → IsLayer z layer → (t : ℕ) → t < z → (a b : ℕ) → a < length (variables_of layer z t) → b < length (variables_of layer z t) → get_or (variables_of layer z t) a 0 ≡ get_or (variables_of layer z t) b 0 → a ≡ b
variables_distinct z layer h t in_t a b l m e =
    let in_a : a < length layer = omega (arith, variable_count_is layer z t) in
    let in_b : b < length layer = omega (arith, variable_count_is layer z t) in
    (one_block_and_row z layer h a b t t in_a in_b in_t in_t (sym (variable_at layer z t a in_a) ∙ e ∙ variable_at layer z t b in_b)).0

edges_distinct : (blocks z t : ℕ) → t < z → (a b : ℕ) → a < length (edges_of blocks z t) → b < length (edges_of blocks z t) → get_or (edges_of blocks z t) a 0 ≡ get_or (edges_of blocks z t) b 0 → a ≡ b
edges_distinct blocks z t in_t a b l m e =
    let in_a : a < blocks = omega (arith, edge_count_is blocks z t) in
    let in_b : b < blocks = omega (arith, edge_count_is blocks z t) in
    (same_from_place a t b t z in_t in_t (sym (edge_at blocks z t a in_a) ∙ e ∙ edge_at blocks z t b in_b)).0

-- ---- one row more

row_variables : (layer : List (ℕ × ℕ)) (z t : ℕ) (s : List ℤ × List ℤ) → (row_worked layer z t s).0 ≡ placed s.0 (variables_of layer z t) (sums_of (row_given layer z t s) (row_rule (row_given layer z t s)))
unfolding row_worked
row_variables layer z t s = refl

row_edges : (layer : List (ℕ × ℕ)) (z t : ℕ) (s : List ℤ × List ℤ) → (row_worked layer z t s).1 ≡ placed s.1 (edges_of (length layer) z t) (row_rule (row_given layer z t s))
unfolding row_worked
row_edges layer z t s = refl

pub length-row_edges : (layer : List (ℕ × ℕ)) (z n : ℕ) (s : List ℤ × List ℤ) → length (rows_worked layer z n s).1 ≡ length s.1
length-row_edges layer z zero s = refl
length-row_edges layer z (suc n) s =
    let before = rows_worked layer z n s in
    ap length (row_edges layer z n before) ∙ length-placed before.1 (edges_of (length layer) z n) (row_rule (row_given layer z n before)) ∙ length-row_edges layer z n s

-- a variable that none of the first n rows has stays as it was
pub other_variable : (layer : List (ℕ × ℕ)) (z n : ℕ) (s : List ℤ × List ℤ) (i : ℕ) → ((t e : ℕ) → t < n → e < length layer → variable_of z t (get_or layer e (0, 0)) ≢ i) → get_or (rows_worked layer z n s).0 i (pos 0) ≡ get_or s.0 i (pos 0)
other_variable layer z zero s i h = refl
other_variable layer z (suc n) s i h =
    let before = rows_worked layer z n s in
    let given = row_given layer z n before in
    ap (λ (xs : List ℤ). get_or xs i (pos 0)) (row_variables layer z n before)
    ∙ placed_other before.0 (variables_of layer z n) (sums_of given (row_rule given)) i
    (λ k l e.
    let in_layer : k < length layer = omega (arith, variable_count_is layer z n) in
    h n k (omega arith) in_layer (sym (variable_at layer z n k in_layer) ∙ e))
    ∙ other_variable layer z n s i (λ t e l m. h t e (omega arith) m)

pub other_edge : (layer : List (ℕ × ℕ)) (z n : ℕ) (s : List ℤ × List ℤ) (i : ℕ) → ((t e : ℕ) → t < n → e < length layer → e * z + t ≢ i) → get_or (rows_worked layer z n s).1 i (pos 0) ≡ get_or s.1 i (pos 0)
other_edge layer z zero s i h = refl
other_edge layer z (suc n) s i h =
    let before = rows_worked layer z n s in
    ap (λ (xs : List ℤ). get_or xs i (pos 0)) (row_edges layer z n before)
    ∙ placed_other before.1 (edges_of (length layer) z n) (row_rule (row_given layer z n before)) i
    (λ k l e.
    let in_layer : k < length layer = omega (arith, edge_count_is (length layer) z n) in
    h n k (omega arith) in_layer (sym (edge_at (length layer) z n k in_layer) ∙ e))
    ∙ other_edge layer z n s i (λ t e l m. h t e (omega arith) m)

-- a row that isn't worked yet is given what it would be given first
pub same_given : (z : ℕ) (layer : List (ℕ × ℕ)) → IsLayer z layer → (n t : ℕ) (s : List ℤ × List ℤ) → n ≤ t → t < z → row_given layer z t (rows_worked layer z n s) ≡ row_given layer z t s
same_given z layer h n t s later in_t =
    let after = rows_worked layer z n s in
    let variables = variables_of layer z t in
    let edges = edges_of (length layer) z t in
    let ps : picked after.0 variables ≡ picked s.0 variables = picked_same after.0 s.0 variables
    (λ k l.
    let in_layer : k < length layer = omega (arith, variable_count_is layer z t) in
    other_variable layer z n s (get_or variables k 0)
    (λ u e m q same. let rows = (one_block_and_row z layer h e k u t q in_layer (omega arith) in_t (same ∙ variable_at layer z t k in_layer)).1 in absurd (omega arith))) in
    let rs : picked after.1 edges ≡ picked s.1 edges = picked_same after.1 s.1 edges
    (λ k l.
    let in_layer : k < length layer = omega (arith, edge_count_is (length layer) z t) in
    other_edge layer z n s (get_or edges k 0)
    (λ u e m q same. let rows = (same_from_place e u k t z (omega arith) in_t (same ∙ edge_at (length layer) z t k in_layer)).1 in absurd (omega arith))) in
    ap (λ (xs : List ℤ). given_of xs (picked after.1 edges)) ps ∙ ap (λ (xs : List ℤ). given_of (picked s.0 variables) xs) rs

length-given_of : (ps rs : List ℤ) → length ps ≡ length rs → length (given_of ps rs) ≡ length ps
length-given_of [] rs h = refl
length-given_of (p ∷ ps) [] h = absurd (omega arith)
length-given_of (p ∷ ps) (r ∷ rs) h = ap suc (length-given_of ps rs (omega arith))

pub length-sums_of : (qs rs : List ℤ) → length qs ≡ length rs → length (sums_of qs rs) ≡ length qs
length-sums_of [] rs h = refl
length-sums_of (q ∷ qs) [] h = absurd (omega arith)
length-sums_of (q ∷ qs) (r ∷ rs) h = ap suc (length-sums_of qs rs (omega arith))

pub length-row_rule : (q : List ℤ) → length (row_rule q) ≡ length q
unfolding row_rule
length-row_rule q = length-map-range_with_len (λ i. told_by (remove q i)) 0 (length q)

pub length-row_given : (layer : List (ℕ × ℕ)) (z t : ℕ) (s : List ℤ × List ℤ) → length (row_given layer z t s) ≡ length layer
length-row_given layer z t s =
    let variables = variables_of layer z t in
    let edges = edges_of (length layer) z t in
    let in_p : length (picked s.0 variables) ≡ length variables = length-map variables (λ (i : ℕ). get_or s.0 i (pos 0)) in
    let in_r : length (picked s.1 edges) ≡ length edges = length-map edges (λ (i : ℕ). get_or s.1 i (pos 0)) in
    let vs = variable_count_is layer z t in
    let es = edge_count_is (length layer) z t in
    length-given_of (picked s.0 variables) (picked s.1 edges) (omega arith) ∙ omega arith

variable_within : (z t column shift long : ℕ) → t < z → (column + 1) * z ≤ long → column * z + (t + shift) % z < long
variable_within z t column shift long in_t fits =
    let turn : (t + shift) % z < z = mod-lt (t + shift) (omega arith) in
    omega arith

-- the row that is worked now leaves its own sums and answers
row_variable_now : (z : ℕ) (layer : List (ℕ × ℕ)) → IsLayer z layer → (t e : ℕ) (s : List ℤ × List ℤ) → t < z → e < length layer → (get_or layer e (0, 0)).0 * z + z ≤ length s.0 → get_or (row_worked layer z t s).0 (variable_of z t (get_or layer e (0, 0))) (pos 0) ≡ get_or (sums_of (row_given layer z t s) (row_rule (row_given layer z t s))) e (pos 0)
row_variable_now z layer h t e s in_t in_layer fits =
    let given = row_given layer z t s in
    let sums = sums_of given (row_rule given) in
    let variables = variables_of layer z t in
    let place : variable_of z t (get_or layer e (0, 0)) ≡ get_or variables e 0 = sym (variable_at layer z t e in_layer) in
    let many : length given ≡ length layer = length-row_given layer z t s in
    let sums_many : length sums ≡ length given = length-sums_of given (row_rule given) (sym (length-row_rule given)) in
    let within : get_or variables e 0 < length s.0 =
    (let inside = variable_within z t ((get_or layer e (0, 0)).0) ((get_or layer e (0, 0)).1) (length s.0) in_t (omega arith) in omega arith) in
    ap (λ (xs : List ℤ). get_or xs (variable_of z t (get_or layer e (0, 0))) (pos 0)) (row_variables layer z t s)
    ∙ ap (λ (i : ℕ). get_or (placed s.0 variables sums) i (pos 0)) place
    ∙ placed_at s.0 variables sums e (variables_distinct z layer h t in_t) (omega (arith, variable_count_is layer z t)) (omega arith) within

row_edge_now : (z : ℕ) (layer : List (ℕ × ℕ)) (t e : ℕ) (s : List ℤ × List ℤ) → t < z → e < length layer → length s.1 ≡ length layer * z → get_or (row_worked layer z t s).1 (e * z + t) (pos 0) ≡ get_or (row_rule (row_given layer z t s)) e (pos 0)
row_edge_now z layer t e s in_t in_layer fits =
    let given = row_given layer z t s in
    let told = row_rule given in
    let edges = edges_of (length layer) z t in
    let place : e * z + t ≡ get_or edges e 0 = sym (edge_at (length layer) z t e in_layer) in
    let many : length given ≡ length layer = length-row_given layer z t s in
    let told_many : length told ≡ length given = length-row_rule given in
    let within : get_or edges e 0 < length s.1 = (let inside = mul-add-lt e z t (length layer) in_layer in_t in omega arith) in
    ap (λ (xs : List ℤ). get_or xs (e * z + t) (pos 0)) (row_edges layer z t s)
    ∙ ap (λ (i : ℕ). get_or (placed s.1 edges told) i (pos 0)) place
    ∙ placed_at s.1 edges told e (edges_distinct (length layer) z t in_t) (omega (arith, edge_count_is (length layer) z t)) (omega arith) within

-- a variable of a row that is worked has what the row left, as if it had been worked first
pub worked_variable : (z : ℕ) (layer : List (ℕ × ℕ)) → IsLayer z layer → (n : ℕ) (s : List ℤ × List ℤ) → n ≤ z → All (λ block. (block.0 + 1) * z ≤ length s.0) layer → (t e : ℕ) → t < n → e < length layer → get_or (rows_worked layer z n s).0 (variable_of z t (get_or layer e (0, 0))) (pos 0) ≡ get_or (sums_of (row_given layer z t s) (row_rule (row_given layer z t s))) e (pos 0)
worked_variable z layer h zero s fits columns t e in_n in_layer = absurd (omega arith)
worked_variable z layer h (suc n) s fits columns t e in_n in_layer =
    let before = rows_worked layer z n s in
    let given = row_given layer z n before in
    let variable = λ (u : ℕ). variable_of z u (get_or layer e (0, 0)) in
    let left = λ (q : List ℤ). get_or (sums_of q (row_rule q)) e (pos 0) in
    elim (cases_eq t n) [
      | inl same ↦
          let column : ((get_or layer e (0, 0)).0 + 1) * z ≤ length s.0 = columns e (0, 0) in_layer in
          ap (λ (u : ℕ). get_or (rows_worked layer z (suc n) s).0 (variable u) (pos 0)) same
          ∙ row_variable_now z layer h n e before (omega arith) in_layer (omega (arith, length-rows layer z n s))
          ∙ ap left (same_given z layer h n n s (omega arith) (omega arith) ∙ ap (λ (u : ℕ). row_given layer z u s) (sym same))
      | inr earlier ↦
          ap (λ (xs : List ℤ). get_or xs (variable t) (pos 0)) (row_variables layer z n before)
          ∙ placed_other before.0 (variables_of layer z n) (sums_of given (row_rule given)) (variable t)
          (λ k l clash.
          let in_k : k < length layer = omega (arith, variable_count_is layer z n) in
          let rows = (one_block_and_row z layer h k e n t in_k in_layer (omega arith) (omega arith) (sym (variable_at layer z n k in_k) ∙ clash)).1 in
          absurd (omega arith))
          ∙ worked_variable z layer h n s (omega arith) columns t e (omega arith) in_layer
    ]

-- and an edge of such a row has what the row tells it
pub worked_edge : (z : ℕ) (layer : List (ℕ × ℕ)) → IsLayer z layer → (n : ℕ) (s : List ℤ × List ℤ) → n ≤ z → length s.1 ≡ length layer * z → (t e : ℕ) → t < n → e < length layer → get_or (rows_worked layer z n s).1 (e * z + t) (pos 0) ≡ get_or (row_rule (row_given layer z t s)) e (pos 0)
worked_edge z layer h zero s fits long t e in_n in_layer = absurd (omega arith)
worked_edge z layer h (suc n) s fits long t e in_n in_layer =
    let before = rows_worked layer z n s in
    let given = row_given layer z n before in
    let left = λ (q : List ℤ). get_or (row_rule q) e (pos 0) in
    elim (cases_eq t n) [
      | inl same ↦
          ap (λ (u : ℕ). get_or (rows_worked layer z (suc n) s).1 (e * z + u) (pos 0)) same
          ∙ row_edge_now z layer n e before (omega arith) in_layer (omega (arith, length-row_edges layer z n s))
          ∙ ap left (same_given z layer h n n s (omega arith) (omega arith) ∙ ap (λ (u : ℕ). row_given layer z u s) (sym same))
      | inr earlier ↦
          ap (λ (xs : List ℤ). get_or xs (e * z + t) (pos 0)) (row_edges layer z n before)
          ∙ placed_other before.1 (edges_of (length layer) z n) (row_rule given) (e * z + t)
          (λ k l clash.
          let in_k : k < length layer = omega (arith, edge_count_is (length layer) z n) in
          let rows = (same_from_place k n e t z (omega arith) (omega arith) (sym (edge_at (length layer) z n k in_k) ∙ clash)).1 in
          absurd (omega arith))
          ∙ worked_edge z layer h n s (omega arith) long t e (omega arith) in_layer
    ]
