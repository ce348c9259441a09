-- Where the first element stands that passes a test, and how many pass, after one element was replaced.
use Rattle.std.proofs.Common.{◌≡◌, ℕ, zero, suc, ◌+◌, ◌<◌, ◌≤◌, ◌≢◌, List, [], ◌∷◌, length, get_or, set, Option, Some, None, Bool, true, false, refl, arith, ◌∙◌, sym}
use Rattle.std.specs.List.{count_by, list_all, position, position_or_len}
use Rattle.allocator.specs.Superblocks.{MayBeOne, one_if, place_after}
use Rattle.std.proofs.lemmas.Bool.{and_parts, and_from}
use Rattle.std.proofs.lemmas.List.{length-set, get_or-set_same, get_or-set_other}
use Rattle.std.proofs.lemmas.List.Folds.{position_or_len-set}
use Rattle.std.proofs.lemmas.List.Sums.{fails_before_first, position_or_len_is, sum_by-cons, sum_by-set, sum_by_more_le}
use Rattle.shared_lemmas.proofs.Positions.{all_fail, not_placed, place-new, place-same}

-- how many pass after one was replaced
pub count_by-set : {X : Type 0} (p : X → Bool) (xs : List X) (i : ℕ) (y d : X) → i < length xs
    → count_by p (set xs i y) + one_if (p (get_or xs i d)) ≡ count_by p xs + one_if (p y)
count_by-set p xs i y d lt = sum_by-set (λ x. one_if (p x)) xs i y d lt

not_one : (b : Bool) → one_if b ≤ 0 → b ≡ false
not_one true le = absurd (omega arith)
not_one false le = refl

-- none passes where none is counted, and the other way round
pub none_pass : {X : Type 0} (p : X → Bool) (xs : List X) → count_by p xs ≡ 0 → (k : ℕ) (d : X) → k < length xs
    → p (get_or xs k d) ≡ false
none_pass p xs none k d lt =
    not_one (p (get_or xs k d)) (omega (arith, sum_by_more_le (λ x. one_if (p x)) xs k d lt))

pub none_counted : {X : Type 0} (p : X → Bool) (xs : List X) (d : X)
    → ((k : ℕ) → k < length xs → p (get_or xs k d) ≡ false) → count_by p xs ≡ 0
none_counted p [] d fail = refl
none_counted p (x ∷ xs) d fail =
    let first : one_if (p x) ≡ 0 = let e : p x ≡ false = fail zero (omega arith) in rw e refl in
    let rest : count_by p xs ≡ 0 = none_counted p xs d (λ k lt. fail (suc k) (omega arith)) in
    sum_by-cons (λ y. one_if (p y)) x xs ∙ omega (arith, first, rest)

-- one that passes is counted
pub counted : {X : Type 0} (p : X → Bool) (xs : List X) (k : ℕ) (d : X) → k < length xs → p (get_or xs k d) ≡ true
    → 1 ≤ count_by p xs
counted p xs k d lt passes = omega (arith, rw passes at (sum_by_more_le (λ x. one_if (p x)) xs k d lt))

place-gone : {X : Type 0} (p : X → Bool) (xs : List X) → count_by p xs ≡ 0 → (d : X) → position p xs ≡ None
place-gone p xs none d =
    not_placed p xs
    (position_or_len_is p xs (length xs) d (omega arith) (λ k below. none_pass p xs none k d below) (λ past. absurd (omega arith)))

-- at most one passes, and this is its place
pub record IsOnly {X : Type 0} (p : X → Bool) (xs : List X) (place : Option ℕ) : Type 0 where
  pub one : count_by p xs ≤ 1
  pub place_is : place ≡ position p xs

follows_by : {X : Type 0} (p : X → Bool) (xs : List X) (i : ℕ) (y d : X) (place : Option ℕ) (old new : Bool)
    → p (get_or xs i d) ≡ old → p y ≡ new → i < length xs → IsOnly p xs place → MayBeOne new old (position p xs)
    → IsOnly p (set xs i y) (place_after old new i place)
follows_by p xs i y d place true true is_old is_new lt only may = record {
  one = omega (arith, rw (is_old, is_new) at (count_by-set p xs i y d lt));
  place_is = only.place_is ∙ sym (place-same p xs i y d (is_new ∙ sym is_old));
}
follows_by p xs i y d place false false is_old is_new lt only may = record {
  one = omega (arith, rw (is_old, is_new) at (count_by-set p xs i y d lt));
  place_is = only.place_is ∙ sym (place-same p xs i y d (is_new ∙ sym is_old));
}
follows_by p xs i y d place true false is_old is_new lt only may = record {
  one = omega (arith, rw (is_old, is_new) at (count_by-set p xs i y d lt));
  place_is = sym (place-gone p (set xs i y) (omega (arith, rw (is_old, is_new) at (count_by-set p xs i y d lt))) d);
}
follows_by p xs i y d place false true is_old is_new lt only none =
    let after_set = rw (is_old, is_new) at (count_by-set p xs i y d lt) in
    record {
      one = omega (arith, after_set, none_counted p xs d (λ k below. all_fail p xs none k d below));
      place_is = sym (place-new p xs i y d lt none is_new);
    }

pub only-set : {X : Type 0} (p : X → Bool) (xs : List X) (i : ℕ) (y d : X) (place : Option ℕ) → i < length xs
    → IsOnly p xs place → MayBeOne (p y) (p (get_or xs i d)) (position p xs)
    → IsOnly p (set xs i y) (place_after (p (get_or xs i d)) (p y) i place)
only-set p xs i y d place lt only may =
    follows_by p xs i y d place (p (get_or xs i d)) (p y) refl refl lt only may

-- all pass after one that passes came in place of another
pub all-set : {X : Type 0} (p : X → Bool) (xs : List X) (i : ℕ) (y : X) → list_all p xs ≡ true → p y ≡ true
    → list_all p (set xs i y) ≡ true
all-set p [] i y all passes = refl
all-set p (x ∷ xs) zero y all passes = and_from (p y) (list_all p xs) passes (and_parts (p x) (list_all p xs) all).1
all-set p (x ∷ xs) (suc i) y all passes =
    let parts = and_parts (p x) (list_all p xs) all in
    and_from (p x) (list_all p (set xs i y)) parts.0 (all-set p xs i y parts.1 passes)

pub all_at : {X : Type 0} (p : X → Bool) (xs : List X) (i : ℕ) (d : X) → list_all p xs ≡ true → i < length xs
    → p (get_or xs i d) ≡ true
all_at p [] i d all lt = absurd (omega arith)
all_at p (x ∷ xs) zero d all lt = (and_parts (p x) (list_all p xs) all).0
all_at p (x ∷ xs) (suc i) d all lt = all_at p xs i d (and_parts (p x) (list_all p xs) all).1 (omega arith)
