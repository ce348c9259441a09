-- Tests that pass, from what they test.
use Rattle.std.proofs.Common.{◌≡◌, refl, ap, ◌∙◌, ℕ, zero, suc, ◌+◌, ◌<◌, ◌≤◌, ◌&&◌, ◌==◌, Bool, true, List, [], ◌∷◌, length, get_or, arith}
use Rattle.std.specs.List.{list_all, range_with_len}
use Rattle.std.proofs.lemmas.Bool.Decides.{nat_tests}
use Rattle.ssd_geo.specs.Limits.{is_within}
use Rattle.ssd_formats.specs.Fields.{is_below}
use Rattle.std.proofs.lemmas.Bool.{and_parts}

pub equal_if : (m n : ℕ) → m ≡ n → (m == n) ≡ true
equal_if m n e = grind (arith, nat_tests)

pub below_if : (bound n : ℕ) → n < bound → is_below bound n ≡ true
below_if bound n e = grind (arith, nat_tests)

pub both_true : (a b : Bool) → a ≡ true → b ≡ true → (a && b) ≡ true
both_true a b e1 e2 = rw (e1, e2) refl

-- and one item of such a list
pub all_at : {X : Type 0} (test : X → Bool) (xs : List X) (d : X) → list_all test xs ≡ true → (k : ℕ) → k < length xs
    → test (get_or xs k d) ≡ true
all_at test [] d e k below = absurd (omega (arith, below))
all_at test (x ∷ xs) d e zero below = (and_parts (test x) (list_all test xs) e).0
all_at test (x ∷ xs) d e (suc k) below =
    all_at test xs d (and_parts (test x) (list_all test xs) e).1 k (omega (arith, below))

-- numbers of a range of which each passes
pub all_of_range : (test : ℕ → Bool) (n from : ℕ) → ((k : ℕ) → k < n → test (from + k) ≡ true)
    → list_all test (range_with_len from n) ≡ true
all_of_range test zero from each = refl
all_of_range test (suc n) from each =
    let here : from ≡ from + 0 = omega arith in
    ap (λ (b : Bool). b && list_all test (range_with_len (from + 1) n)) (ap test here ∙ each 0 (omega arith))
    ∙ all_of_range test n (from + 1)
    (λ k below. let there : from + 1 + k ≡ from + suc k = omega arith in
    ap test there ∙ each (suc k) (omega (arith, below)))
