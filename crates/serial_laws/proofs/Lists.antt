-- Lists, and pairs of lists whose items go together.
use Rattle.std.proofs.Common.{ℕ, suc, zero, ◌≡◌, ◌≢◌, ◌+◌, ◌<◌, Bool, true, false, List, [], ◌∷◌, length, Option, Some, refl, sym, ap, subst, ◌∙◌, inl, inr, arith}
use Rattle.std.specs.Prelude.{◌||◌, ◌==◌, All, sum_by, slice_get, slice_set, slice_index_or, ⊤}
use Rattle.std.specs.List.{enumerate_from}
use Rattle.std.proofs.lemmas.Bool.{cases_eq}
use Rattle.std.proofs.lemmas.Grind.{common_steps}
use Rattle.std.proofs.lemmas.List.Elements.{All-nil, All-cons, All-head, All-tail, All-get_or}
use Rattle.std.proofs.lemmas.List.FromFn.{length-enumerate_from, get_or-enumerate_from}
use Rattle.std.proofs.lemmas.List.Sums.{sum_by-cons, sum_by-set}
use Rattle.std.proofs.lemmas.Option.{get_or_from_slice_get, slice_get-get_or, slice_get_within, same_Some}

-- what holds of two facts of each item together
pub all_both : {X : Type 0} (P Q R : X → Type 0) → ((x : X) → P x → Q x → R x) → (xs : List X) → All P xs → All Q xs → All R xs
all_both P Q R follows xs p q = λ k d within. follows (slice_index_or xs k d) (p k d within) (q k d within)

pub all_numbered : {X : Type 0} (P : ℕ × X → Type 0) (xs : List X) → ((i : ℕ) (x : X) → slice_get xs i ≡ Some x → P (i, x)) →
    All P (enumerate_from 0 xs)
all_numbered {X} P xs each i item within =
    let low : i < length xs = omega (arith, within, length-enumerate_from 0 xs) in
    let number : 0 + i ≡ i = omega arith in
    subst P (sym (get_or-enumerate_from 0 xs i item low))
    (subst (λ (n : ℕ). P (n, slice_index_or xs i item.1)) (sym number)
    (each i (slice_index_or xs i item.1) (slice_get-get_or xs i item.1 low)))

pub get_set_other : {X : Type 0} (xs : List X) (i k : ℕ) (y : X) → i ≢ k → slice_get (slice_set xs k y) i ≡ slice_get xs i
get_set_other [] i k y other = refl
get_set_other (x ∷ xs) zero zero y other = absurd (other refl)
get_set_other (x ∷ xs) zero (suc k) y other = refl
get_set_other (x ∷ xs) (suc i) zero y other = refl
get_set_other (x ∷ xs) (suc i) (suc k) y other = get_set_other xs i k y (λ same. other (ap suc same))

get_set_same : {X : Type 0} (xs : List X) (k : ℕ) (x y : X) → slice_get (slice_set xs k y) k ≡ Some x → y ≡ x
get_set_same [] k x y is = absurd (grind arith)
get_set_same (first ∷ xs) zero x y is = same_Some y x is
get_set_same (first ∷ xs) (suc k) x y is = get_set_same xs k x y is

pub get_set_there : {X : Type 0} (xs : List X) (k : ℕ) (x y : X) → slice_get xs k ≡ Some x →
    slice_get (slice_set xs k y) k ≡ Some y
get_set_there [] k x y is = absurd (grind arith)
get_set_there (first ∷ xs) zero x y is = refl
get_set_there (first ∷ xs) (suc k) x y is = get_set_there xs k x y is

-- what holds of each item and number of a list that was set at a place
pub all_set : {X : Type 0} (P : ℕ × X → Type 0) (xs : List X) (k : ℕ) (y : X) →
    ((i : ℕ) (x : X) → i ≢ k → slice_get xs i ≡ Some x → P (i, x)) → P (k, y) → All P (enumerate_from 0 (slice_set xs k y))
all_set {X} P xs k y others own =
    all_numbered P (slice_set xs k y)
    (λ i x is.
    elim (cases_eq i k) [
      | inl same ↦
          let item : y ≡ x = get_set_same xs k x y (ap (slice_get (slice_set xs k y)) (sym same) ∙ is) in
          subst P (λ j. (sym same j, item j)) own
      | inr other ↦ others i x other (sym (get_set_other xs i k y other) ∙ is)
    ])

-- a sum over a list that was set at a place
pub sum_set : {X : Type 0} (f : X → ℕ) (xs : List X) (k : ℕ) (x y : X) → slice_get xs k ≡ Some x →
    sum_by f (slice_set xs k y) + f x ≡ sum_by f xs + f y
sum_set f xs k x y is =
    let sums = sum_by-set f xs k y x (slice_get_within xs k x is) in
    let old : f (slice_index_or xs k x) ≡ f x = ap f (get_or_from_slice_get xs k x x is) in
    omega (arith, sums, old)

-- a sum of terms that are all 0
pub sum_of_none : {X : Type 0} (f : X → ℕ) (xs : List X) → All (λ x. f x ≡ 0) xs → sum_by f xs ≡ 0
sum_of_none f [] none = refl
sum_of_none f (x ∷ xs) none =
    omega (arith, sum_by-cons f x xs, All-head (λ y. f y ≡ 0) x xs none, sum_of_none f xs (All-tail (λ y. f y ≡ 0) x xs none))

-- two lists have as many items, and each pair of items at one place goes together
abbrev pub Pairwise : {X : Type 0} → (X → X → Type 0) → List X → List X → Type 0
Pairwise R [] [] = ⊤
Pairwise R [] (y ∷ ys) = ⊥
Pairwise R (x ∷ xs) [] = ⊥
Pairwise R (x ∷ xs) (y ∷ ys) = R x y × Pairwise R xs ys

pub pairs_same : {X : Type 0} (R : X → X → Type 0) → ((x : X) → R x x) → (xs : List X) → Pairwise R xs xs
pairs_same R same [] = tt
pairs_same R same (x ∷ xs) = (same x, pairs_same R same xs)

pub pairs_set : {X : Type 0} (R : X → X → Type 0) → ((x : X) → R x x) → (xs : List X) (k : ℕ) (x y : X) →
    slice_get xs k ≡ Some x → R x y → Pairwise R xs (slice_set xs k y)
pairs_set R same [] k x y is new = absurd (grind arith)
pairs_set R same (first ∷ xs) zero x y is new =
    (subst (λ before. R before y) (sym (same_Some first x is)) new, pairs_same R same xs)
pairs_set R same (first ∷ xs) (suc k) x y is new = (same first, pairs_set R same xs k x y is new)

pub pairs_join : {X : Type 0} (R S T : X → X → Type 0) → ((x y z : X) → R x y → S y z → T x z) → (xs ys zs : List X) →
    Pairwise R xs ys → Pairwise S ys zs → Pairwise T xs zs
pairs_join R S T join [] [] [] first second = tt
pairs_join R S T join [] [] (z ∷ zs) first second = absurd second
pairs_join R S T join [] (y ∷ ys) zs first second = absurd first
pairs_join R S T join (x ∷ xs) [] zs first second = absurd first
pairs_join R S T join (x ∷ xs) (y ∷ ys) [] first second = absurd second
pairs_join R S T join (x ∷ xs) (y ∷ ys) (z ∷ zs) first second =
    (join x y z first.0 second.0, pairs_join R S T join xs ys zs first.1 second.1)

pub pairs_weaker : {X : Type 0} (R S : X → X → Type 0) → ((x y : X) → R x y → S x y) → (xs ys : List X) → Pairwise R xs ys →
    Pairwise S xs ys
pairs_weaker R S weaker [] [] pairs = tt
pairs_weaker R S weaker [] (y ∷ ys) pairs = absurd pairs
pairs_weaker R S weaker (x ∷ xs) [] pairs = absurd pairs
pairs_weaker R S weaker (x ∷ xs) (y ∷ ys) pairs = (weaker x y pairs.0, pairs_weaker R S weaker xs ys pairs.1)

pub pairs_as_many : {X : Type 0} (R : X → X → Type 0) (xs ys : List X) → Pairwise R xs ys → length ys ≡ length xs
pairs_as_many R [] [] pairs = refl
pairs_as_many R [] (y ∷ ys) pairs = absurd pairs
pairs_as_many R (x ∷ xs) [] pairs = absurd pairs
pairs_as_many R (x ∷ xs) (y ∷ ys) pairs = let rest = pairs_as_many R xs ys pairs.1 in omega (arith, rest)

-- the item that goes with the one at a place
pub record IsPairedAt {X : Type 0} (R : X → X → Type 0) (xs : List X) (i : ℕ) (y : X) : Type 0 where
  pub item : X
  pub is_there : slice_get xs i ≡ Some item
  pub goes : R item y

pub paired_at : {X : Type 0} (R : X → X → Type 0) (xs ys : List X) (i : ℕ) (y : X) → Pairwise R xs ys →
    slice_get ys i ≡ Some y → IsPairedAt R xs i y
paired_at R [] [] i y pairs is = absurd (grind arith)
paired_at R [] (other ∷ ys) i y pairs is = absurd pairs
paired_at R (x ∷ xs) [] i y pairs is = absurd pairs
paired_at R (x ∷ xs) (other ∷ ys) zero y pairs is = record {
  item = x;
  is_there = refl;
  goes = subst (R x) (same_Some other y is) pairs.0;
}
paired_at R (x ∷ xs) (other ∷ ys) (suc i) y pairs is =
    let found = paired_at R xs ys i y pairs.1 is in
    record { item = found.item; is_there = found.is_there; goes = found.goes }

-- what holds of each item of one list, and of those that go with them
pub pairs_all : {X : Type 0} (R : X → X → Type 0) (P Q : X → Type 0) → ((x y : X) → R x y → P x → Q y) → (xs ys : List X) →
    Pairwise R xs ys → All P xs → All Q ys
pairs_all R P Q follows [] [] pairs all = All-nil Q
pairs_all R P Q follows [] (y ∷ ys) pairs all = absurd pairs
pairs_all R P Q follows (x ∷ xs) [] pairs all = absurd pairs
pairs_all R P Q follows (x ∷ xs) (y ∷ ys) pairs all =
    All-cons Q y ys (follows x y pairs.0 (All-head P x xs all)) (pairs_all R P Q follows xs ys pairs.1 (All-tail P x xs all))

pub pairs_sum : {X : Type 0} (R : X → X → Type 0) (f : X → ℕ) → ((x y : X) → R x y → f y ≡ f x) → (xs ys : List X) →
    Pairwise R xs ys → sum_by f ys ≡ sum_by f xs
pairs_sum R f same [] [] pairs = refl
pairs_sum R f same [] (y ∷ ys) pairs = absurd pairs
pairs_sum R f same (x ∷ xs) [] pairs = absurd pairs
pairs_sum R f same (x ∷ xs) (y ∷ ys) pairs =
    omega (arith, sum_by-cons f x xs, sum_by-cons f y ys, same x y pairs.0, pairs_sum R f same xs ys pairs.1)

-- an item that is there
pub record IsItemAt {X : Type 0} (xs : List X) (i : ℕ) : Type 0 where
  pub item : X
  pub is_there : slice_get xs i ≡ Some item

pub item_at : {X : Type 0} (xs : List X) (i : ℕ) → i < length xs → IsItemAt xs i
item_at [] i low = absurd (omega arith)
item_at (x ∷ xs) zero low = record { item = x; is_there = refl }
item_at (x ∷ xs) (suc i) low =
    let found = item_at xs i (omega arith) in
    record { item = found.item; is_there = found.is_there }

-- lists with a first item that are one have one first item and one rest
pub same_first : {X : Type 0} (x y : X) (xs ys : List X) → ◌≡◌ {A = List X} (x ∷ xs) (y ∷ ys) → (x ≡ y) × (xs ≡ ys)
same_first {X} x y xs ys e = (ap (first_or x) e, ap rest_of e)
  where
    first_or : X → List X → X
    first_or other [] = other
    first_or other (z ∷ zs) = z

    rest_of : List X → List X
    rest_of [] = []
    rest_of (z ∷ zs) = zs

pub not_empty : {X : Type 0} (x : X) (xs : List X) → ◌≡◌ {A = List X} (x ∷ xs) [] → ⊥
not_empty x xs e = grind arith

-- pairs the other way round
pub pairs_flip : {X : Type 0} (R S : X → X → Type 0) → ((x y : X) → R x y → S y x) → (xs ys : List X) → Pairwise R xs ys →
    Pairwise S ys xs
pairs_flip R S flips [] [] pairs = tt
pairs_flip R S flips [] (y ∷ ys) pairs = absurd pairs
pairs_flip R S flips (x ∷ xs) [] pairs = absurd pairs
pairs_flip R S flips (x ∷ xs) (y ∷ ys) pairs = (flips x y pairs.0, pairs_flip R S flips xs ys pairs.1)
