-- Where the first item stands that passes a test, also after one item was replaced.
use Rattle.std.proofs.Common.{◌≡◌, ℕ, zero, suc, ◌<◌, ◌≢◌, List, [], ◌∷◌, length, get_or, set, Some, None, Bool, true, false, refl, arith}
use Rattle.std.specs.List.{list_all, position, position_or_len}
use Rattle.std.proofs.lemmas.Bool.{and_from}
use Rattle.std.proofs.lemmas.List.{length-set, get_or-set_same, get_or-set_other}
use Rattle.std.proofs.lemmas.List.Folds.{position_or_len-set}
use Rattle.std.proofs.lemmas.List.Sums.{fails_before_first, position_or_len_is}

pub placed : {X : Type 0} (p : X → Bool) (xs : List X) (i : ℕ) → position_or_len p xs ≡ i → i < length xs
    → position p xs ≡ Some i
placed p xs i e lt = grind (arith, e, lt)

pub not_placed : {X : Type 0} (p : X → Bool) (xs : List X) → position_or_len p xs ≡ length xs → position p xs ≡ None
not_placed p xs e = grind (arith, e)

-- no element passes where there is no place
pub all_fail : {X : Type 0} (p : X → Bool) (xs : List X) → position p xs ≡ None → (k : ℕ) (d : X) → k < length xs
    → p (get_or xs k d) ≡ false
all_fail p xs e k d lt = fails_before_first p xs k d (grind (arith, e, lt))

pub place-same : {X : Type 0} (p : X → Bool) (xs : List X) (i : ℕ) (y d : X) → p y ≡ p (get_or xs i d)
    → position p (set xs i y) ≡ position p xs
place-same p xs i y d same = rw (position_or_len-set p xs i y d same, length-set) refl

pub place-new : {X : Type 0} (p : X → Bool) (xs : List X) (i : ℕ) (y d : X) → i < length xs → position p xs ≡ None
    → p y ≡ true → position p (set xs i y) ≡ Some i
place-new p xs i y d lt none passes =
    let lt' : i < length (set xs i y) = rw length-set lt in
    placed p (set xs i y) i
    (position_or_len_is p (set xs i y) i d (omega arith)
    (λ k below. let ne : k ≢ i = omega arith in rw (get_or-set_other xs i k y d ne) (all_fail p xs none k d (omega arith)))
    (λ _. rw (get_or-set_same xs i y d lt) passes))
    lt'

pub all_from : {X : Type 0} (p : X → Bool) (xs : List X) (d : X)
    → ((k : ℕ) → k < length xs → p (get_or xs k d) ≡ true) → list_all p xs ≡ true
all_from p [] d each = refl
all_from p (x ∷ xs) d each =
    and_from (p x) (list_all p xs) (each zero (omega arith)) (all_from p xs d (λ k lt. each (suc k) (omega arith)))
