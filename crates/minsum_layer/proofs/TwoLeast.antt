-- The two least magnitudes of a row, kept in one pass, give the least magnitude of the others at each place.
use Rattle.std.proofs.Common.{◌≡◌, ℕ, zero, suc, ◌<◌, ◌≤◌, min, max, Bool, true, false, cond, eqb, List, [], ◌∷◌, map, length, get_or, take, drop, ℤ, pos, unsigned_abs, fold, All, refl, sym, ap, ◌∙◌, arith}
use Rattle.std.specs.List.{remove}
use Rattle.std.proofs.lemmas.Bool.Decides.{nat_tests}
use Rattle.std.proofs.lemmas.List.Elements.{All-head, All-append, All-take, All-drop}
use Rattle.std.proofs.lemmas.List.{length-append, length-take, length-drop}
use Rattle.ssd_geo.specs.RowRule.{IsWithin, differ, is_negative, is_product_negative, least_magnitude}

-- the two least magnitudes so far, after one more number
abbrev pub keep : ℕ × ℕ → ℤ → ℕ × ℕ
keep two x = (min (two.0) (unsigned_abs x), min (two.1) (max (two.0) (unsigned_abs x)))

-- the least magnitude of the others, from the two least and the number's own magnitude
abbrev pub other_of : ℕ × ℕ → ℕ → ℕ
other_of two own = cond (eqb own (two.0)) (two.1) (two.0)

other_of-keep : (a b v m : ℕ) → a ≤ b → a ≤ v → min (other_of (a, b) v) m ≡ other_of (min a m, min b (max a m)) v
other_of-keep a b v m h k = grind (arith, nat_tests)

other_of-new : (a b m : ℕ) → a ≤ b → other_of (min a m, min b (max a m)) m ≡ a
other_of-new a b m h = grind (arith, nat_tests)

-- a number before the list is taken out
taken_before : (a b v : ℕ) (xs : List ℤ) → a ≤ b → a ≤ v → fold min (other_of (a, b) v) (map unsigned_abs xs) ≡ other_of (fold keep (a, b) xs) v
taken_before a b v [] h k = refl
taken_before a b v (x ∷ xs) h k =
    ap (λ n. fold min n (map unsigned_abs xs)) (other_of-keep a b v (unsigned_abs x) h k)
    ∙ taken_before (min a (unsigned_abs x)) (min b (max a (unsigned_abs x))) v xs (omega arith) (omega arith)

-- item i of the list is taken out
taken_within : (a b : ℕ) (xs : List ℤ) (i : ℕ) → a ≤ b → i < length xs → fold min a (map unsigned_abs (remove xs i)) ≡ other_of (fold keep (a, b) xs) (unsigned_abs (get_or xs i (pos 0)))
taken_within a b [] i h k = absurd (omega arith)
taken_within a b (x ∷ xs) zero h k =
    let m = unsigned_abs x in
    ap (λ n. fold min n (map unsigned_abs xs)) (sym (other_of-new a b m h))
    ∙ taken_before (min a m) (min b (max a m)) m xs (omega arith) (omega arith)
taken_within a b (x ∷ xs) (suc i) h k =
    let m = unsigned_abs x in
    taken_within (min a m) (min b (max a m)) xs i (omega arith) (omega arith)

least-from : (bound : ℕ) (xs : List ℤ) → 0 < length xs → All (IsWithin bound) xs → least_magnitude xs ≡ fold min bound (map unsigned_abs xs)
least-from bound [] h k = absurd (omega arith)
least-from bound (x ∷ xs) h k =
    let head : unsigned_abs x ≤ bound = All-head (IsWithin bound) x xs k in
    ap (λ n. fold min n (map unsigned_abs xs)) (omega arith)

differ_twice : (a b : Bool) → b ≡ differ a (differ a b)
differ_twice false b = refl
differ_twice true false = refl
differ_twice true true = refl

differ_swap : (a b c : Bool) → differ a (differ b c) ≡ differ b (differ a c)
differ_swap false b c = refl
differ_swap true false c = refl
differ_swap true true c = refl

-- the sign of the others is the sign of all, turned by the number's own
pub sign-remove : (xs : List ℤ) (i : ℕ) → i < length xs → is_product_negative (remove xs i) ≡ differ (is_negative (get_or xs i (pos 0))) (is_product_negative xs)
sign-remove [] i h = absurd (omega arith)
sign-remove (x ∷ xs) zero h = differ_twice (is_negative x) (is_product_negative xs)
sign-remove (x ∷ xs) (suc i) h =
    ap (differ (is_negative x)) (sign-remove xs i (omega arith))
    ∙ differ_swap (is_negative x) (is_negative (get_or xs i (pos 0))) (is_product_negative xs)

length-remove : (xs : List ℤ) (i : ℕ) → 2 ≤ length xs → 0 < length (remove xs i)
length-remove xs i h = simp (length-append, length-take, length-drop) (omega arith)

All-remove : (P : ℤ → Type 0) (xs : List ℤ) (i : ℕ) → All P xs → All P (remove xs i)
All-remove P xs i h = All-append P (take i xs) (drop (suc i) xs) (All-take P i xs h) (All-drop P (suc i) xs h)

-- after the whole row, the two least give the least magnitude of the others at each place
pub least_of_others : (xs : List ℤ) (two : ℕ × ℕ) (i : ℕ) → 2 ≤ length xs → All (IsWithin 127) xs → two ≡ fold keep (127, 127) xs → i < length xs → least_magnitude (remove xs i) ≡ other_of two (unsigned_abs (get_or xs i (pos 0)))
least_of_others xs two i several values is h =
    least-from 127 (remove xs i) (length-remove xs i several) (All-remove (IsWithin 127) xs i values)
    ∙ taken_within 127 127 xs i (omega arith) h
    ∙ ap (λ t. other_of t (unsigned_abs (get_or xs i (pos 0)))) (sym is)
