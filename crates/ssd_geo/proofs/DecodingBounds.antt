-- The numbers that a check row and a layer leave are bounded.
use Rattle.std.proofs.Common.{◌≡◌, ap, ℕ, zero, suc, ◌*◌, ◌/◌, ◌≤◌, min, Bool, true, false, List, [], ◌∷◌, map, length, take, drop, ℤ, ◌+ℤ◌, ◌-ℤ◌, unsigned_abs, set, All, fold, arith, zip}
use Rattle.std.specs.List.{remove, range_with_len}
use Rattle.std.proofs.lemmas.Int.{ints, clamps}
use Rattle.std.proofs.lemmas.List.Elements.{All-nil, All-cons, All-head, All-tail, All-append, All-take, All-drop, All-set, All-map, All-same}
use Rattle.ssd_geo.specs.RowRule.{IsWithin, row_rule, told_by, least_magnitude, signed, is_product_negative}
use Rattle.ssd_geo.specs.Decoding.{clamped, given_of, sums_of, placed, picked, edges_of, row_worked, rows_worked}
use Rattle.ssd_geo.specs.Layer.{variables_of}
use Rattle.ssd_geo.specs.LayerNumbers.{AreNumbersOf}

signed_within : (b : Bool) (n bound : ℕ) → n ≤ bound → IsWithin bound (signed b n)
signed_within false n bound h = h
signed_within true zero bound h = h
signed_within true (suc n) bound h = h

fold_min-le : (a : ℕ) (xs : List ℕ) → fold min a xs ≤ a
fold_min-le a [] = omega arith
fold_min-le a (x ∷ xs) = omega (arith, fold_min-le (min a x) xs)

least_within : (bound : ℕ) (xs : List ℤ) → All (IsWithin bound) xs → least_magnitude xs ≤ bound
least_within bound [] h = omega arith
least_within bound (x ∷ xs) h =
    let head : unsigned_abs x ≤ bound = All-head (IsWithin bound) x xs h in
    omega (arith, fold_min-le (unsigned_abs x) (map unsigned_abs xs))

pub told_within : (others : List ℤ) → All (IsWithin 127) others → IsWithin 95 (told_by others)
told_within others h =
    signed_within (is_product_negative others) (3 * least_magnitude others / 4) 95 (omega (arith, least_within 127 others h))

All-remove : (P : ℤ → Type 0) (xs : List ℤ) (i : ℕ) → All P xs → All P (remove xs i)
All-remove P xs i h = All-append P (take i xs) (drop (suc i) xs) (All-take P i xs h) (All-drop P (suc i) xs h)

All-map_any : {A : Type 0} (P : ℤ → Type 0) (f : A → ℤ) → ((a : A) → P (f a)) → (xs : List A) → All P (map f xs)
All-map_any P f h xs = All-map P f xs (λ k d _. h _)

pub row_rule_within : (q : List ℤ) → All (IsWithin 127) q → All (IsWithin 95) (row_rule q)
unfolding row_rule
row_rule_within q h =
    All-map_any (IsWithin 95) (λ i. told_by (remove q i)) (λ i. told_within (remove q i) (All-remove (IsWithin 127) q i h)) (range_with_len 0 (length q))

clamped_within : (n : ℤ) → IsWithin 127 (clamped n)
clamped_within n = omega (arith, ints, clamps)

pub given_within : (ps rs : List ℤ) → All (IsWithin 127) (given_of ps rs)
given_within ps rs =
    All-map_any (IsWithin 127) (λ (pr : ℤ × ℤ). clamped (pr.0 -ℤ pr.1)) (λ pr. clamped_within (pr.0 -ℤ pr.1)) (zip ps rs)

pub told_to_given_within : (ps rs : List ℤ) → All (IsWithin 95) (row_rule (given_of ps rs))
told_to_given_within ps rs = row_rule_within (given_of ps rs) (given_within ps rs)

sum_within : (q r : ℤ) → IsWithin 127 q → IsWithin 95 r → IsWithin 222 (q +ℤ r)
sum_within q r a b = omega (arith, ints)

sums_within_rec : (qs rs : List ℤ) → All (IsWithin 127) qs → All (IsWithin 95) rs → All (IsWithin 222) (sums_of qs rs)
sums_within_rec [] rs a b = All-nil (IsWithin 222)
sums_within_rec (q ∷ qs) [] a b = All-nil (IsWithin 222)
sums_within_rec (q ∷ qs) (r ∷ rs) a b =
    All-cons (IsWithin 222) (q +ℤ r) (sums_of qs rs)
    (sum_within q r (All-head (IsWithin 127) q qs a) (All-head (IsWithin 95) r rs b))
    (sums_within_rec qs rs (All-tail (IsWithin 127) q qs a) (All-tail (IsWithin 95) r rs b))

All-placed : (P : ℤ → Type 0) (xs : List ℤ) (places : List ℕ) (ys : List ℤ) → All P xs → All P ys → All P (placed xs places ys)
All-placed P xs [] ys a b = a
All-placed P xs (i ∷ places) [] a b = a
All-placed P xs (i ∷ places) (y ∷ ys) a b =
    All-placed P (set xs i y) places ys (All-set P xs i y (All-head P y ys b) a) (All-tail P y ys b)

pub row_variables_within : (layer : List (ℕ × ℕ)) (z t : ℕ) (s : List ℤ × List ℤ) → All (IsWithin 222) s.0 → All (IsWithin 222) (row_worked layer z t s).0
unfolding row_worked
row_variables_within layer z t s h =
    let variables = variables_of layer z t in
    let edges = edges_of (length layer) z t in
    let given = given_of (picked s.0 variables) (picked s.1 edges) in
    All-placed (IsWithin 222) s.0 variables (sums_of given (row_rule given)) h
    (sums_within_rec given (row_rule given) (given_within (picked s.0 variables) (picked s.1 edges)) (told_to_given_within (picked s.0 variables) (picked s.1 edges)))

pub row_edges_within : (layer : List (ℕ × ℕ)) (z t : ℕ) (s : List ℤ × List ℤ) → All (IsWithin 95) s.1 → All (IsWithin 95) (row_worked layer z t s).1
unfolding row_worked
row_edges_within layer z t s h =
    let variables = variables_of layer z t in
    let edges = edges_of (length layer) z t in
    let given = given_of (picked s.0 variables) (picked s.1 edges) in
    All-placed (IsWithin 95) s.1 edges (row_rule given) h (told_to_given_within (picked s.0 variables) (picked s.1 edges))

pub rows_variables_within : (layer : List (ℕ × ℕ)) (z n : ℕ) (s : List ℤ × List ℤ) → All (IsWithin 222) s.0 → All (IsWithin 222) (rows_worked layer z n s).0
rows_variables_within layer z zero s h = h
rows_variables_within layer z (suc n) s h = row_variables_within layer z n (rows_worked layer z n s) (rows_variables_within layer z n s h)

pub rows_edges_within : (layer : List (ℕ × ℕ)) (z n : ℕ) (s : List ℤ × List ℤ) → All (IsWithin 95) s.1 → All (IsWithin 95) (rows_worked layer z n s).1
rows_edges_within layer z zero s h = h
rows_edges_within layer z (suc n) s h = row_edges_within layer z n (rows_worked layer z n s) (rows_edges_within layer z n s h)

-- a layer's numbers stay such while its check rows are worked
pub numbers_kept : (layer : List (ℕ × ℕ)) (z n : ℕ) (p r p' r' : List ℤ) → AreNumbersOf z layer p r → (p', r') ≡ rows_worked layer z n (p, r) → length p' ≡ length p → length r' ≡ length r → AreNumbersOf z layer p' r'
numbers_kept layer z n p r p' r' h e in_p in_r = record {
  columns = λ k d q. omega (arith, h.columns k d q);
  edges = omega (arith, h.edges);
  p_within = All-same (IsWithin 222) p' (rows_worked layer z n (p, r)).0 (ap (λ s. s.0) e) (rows_variables_within layer z n (p, r) h.p_within);
  r_within = All-same (IsWithin 95) r' (rows_worked layer z n (p, r)).1 (ap (λ s. s.1) e) (rows_edges_within layer z n (p, r) h.r_within);
}
