-- Counts over lists of which one item is set.
use Rattle.std.proofs.Common.{◌≡◌, ℕ, zero, suc, ◌+◌, ◌<◌, ◌≤◌, cond, Bool, true, false, List, [], ◌∷◌, length, set, get_or, refl, ap, arith}
use Rattle.std.specs.Prelude.{count_by}
use Rattle.std.proofs.lemmas.List.Sums.{sum_by-cons, sum_by-set, get_or-le-sum_by}

-- one for a test that holds
abbrev pub one : Bool → ℕ
one b = cond b 1 0

-- what it is for a test that is known
pub one_true : (b : Bool) → b ≡ true → one b ≡ 1
one_true b e = ap {B = ℕ} one e

pub one_false : (b : Bool) → b ≡ false → one b ≡ 0
one_false b e = ap {B = ℕ} one e

-- where one item is set, at most one more passes
pub count_set_most : {X : Type 0} (p : X → Bool) (xs : List X) (i : ℕ) (y : X)
    → count_by p (set xs i y) ≤ count_by p xs + one (p y)
count_set_most p [] i y = omega arith
count_set_most p (x ∷ xs) zero y = omega (arith, sum_by-cons (λ x. one (p x)) x xs, sum_by-cons (λ x. one (p x)) y xs)
count_set_most p (x ∷ xs) (suc i) y =
    omega (arith, sum_by-cons (λ x. one (p x)) x xs, sum_by-cons (λ x. one (p x)) x (set xs i y), count_set_most p xs i y)

-- how many pass after an item was set
pub count_set : {X : Type 0} (p : X → Bool) (xs : List X) (i : ℕ) (y d : X) → i < length xs
    → count_by p (set xs i y) + one (p (get_or xs i d)) ≡ count_by p xs + one (p y)
count_set p xs i y d lt = sum_by-set (λ x. one (p x)) xs i y d lt

-- where none is counted, none passes
pub none_pass : {X : Type 0} (p : X → Bool) (xs : List X) (i : ℕ) (d : X) → count_by p xs ≡ 0 → i < length xs
    → p (get_or xs i d) ≡ false
none_pass p xs i d none lt = not_one (p (get_or xs i d)) (omega (arith, none, get_or-le-sum_by (λ x. one (p x)) xs i d lt))
  where
    not_one : (b : Bool) → one b ≤ 0 → b ≡ false
    not_one true le = absurd (omega arith)
    not_one false le = refl

-- two tests that share out a third share out its count
pub counts_add : {X : Type 0} (p q r : X → Bool) → ((x : X) → one (p x) ≡ one (q x) + one (r x)) → (xs : List X)
    → count_by p xs ≡ count_by q xs + count_by r xs
counts_add p q r shares [] = refl
counts_add p q r shares (x ∷ xs) =
    omega (
      arith,
      shares x,
      sum_by-cons (λ x. one (p x)) x xs,
      sum_by-cons (λ x. one (q x)) x xs,
      sum_by-cons (λ x. one (r x))
          x xs,
      counts_add p q r shares xs,
    )

-- where no item passes, none is counted
none_counted : {X : Type 0} (p : X → Bool) (d : X) (xs : List X) → ((i : ℕ) → p (get_or xs i d) ≡ false) → count_by p xs ≡ 0
none_counted p d [] fails = refl
none_counted p d (x ∷ xs) fails =
    omega (arith, one_false (p x) (fails zero), sum_by-cons (λ y. one (p y)) x xs, none_counted p d xs (λ i. fails (suc i)))

-- a test that no two items pass is passed once at most
pub at_most_one : {X : Type 0} (p : X → Bool) (d : X) (xs : List X)
    → ((i j : ℕ) → p (get_or xs i d) ≡ true → p (get_or xs j d) ≡ true → i ≡ j) → count_by p xs ≤ 1
at_most_one p d [] same = omega arith
at_most_one p d (x ∷ xs) same = by_first (p x) refl (at_most_one p d xs (λ i j h g. less_one i j (same (suc i) (suc j) h g)))
  where
    less_one : (i j : ℕ) → suc i ≡ suc j → i ≡ j
    less_one i j e = omega arith

    never : (i : ℕ) → zero ≡ suc i → ⊥
    never i e = omega arith

    not_true : (b : Bool) → (b ≡ true → ⊥) → b ≡ false
    not_true true h = absurd (h refl)
    not_true false h = refl

    by_first : (b : Bool) → p x ≡ b → count_by p xs ≤ 1 → count_by p (x ∷ xs) ≤ 1
    by_first true e rest =
        omega (
          arith,
          one_true (p x) e,
          sum_by-cons (λ y. one (p y)) x xs,
          none_counted p d xs (λ i. not_true (p (get_or xs i d)) (λ h. never i (same zero (suc i) e h))),
        )
    by_first false e rest = omega (arith, one_false (p x) e, sum_by-cons (λ y. one (p y)) x xs, rest)
