-- Lists: what holds of the item at a place, lists of one item, and lists with one more.
use Rattle.std.proofs.Common.{◌≡◌, [], ◌∷◌, ◌⊎◌, ℕ, zero, suc, List, ◌++◌, length, refl, sym, ap, inl, inr, ⊎_elim, get_or, replicate, false, ◌+◌, ◌<◌, Some, subst, arith, ◌-◌, ◌∙◌, slice_get, drop, take}
use mathlib.Core.Option.{some, some-injective, some-ne-none}
use lib.ListN.{get_elem?}
use Rattle.std.specs.Prelude.{All, slice_get, slice_index_or, sum_by}
use Rattle.std.specs.List.{enumerate_from, range_with_len}
use Rattle.std.proofs.lemmas.List.Elements.{All-get_or}
use Rattle.std.proofs.lemmas.List.FromFn.{length-enumerate_from, get_or-enumerate_from, map-range_with_len_more}
use Rattle.std.proofs.lemmas.Option.{get_or_from_slice_get, slice_get_within}
use Rattle.std.proofs.lemmas.List.{map-id}
use Rattle.std.proofs.lemmas.List.Sums.{sum_by_push}

-- eight items that are equal one by one
pub eight_equal : {X : Type 0} {a b c d e f g h a' b' c' d' e' f' g' h' : X} → a ≡ a' → b ≡ b' → c ≡ c' → d ≡ d' → e ≡ e' → f ≡ f' → g ≡ g' → h ≡ h' →
    a ∷ b ∷ c ∷ d ∷ e ∷ f ∷ g ∷ h ∷ [] ≡ a' ∷ b' ∷ c' ∷ d' ∷ e' ∷ f' ∷ g' ∷ h' ∷ []
eight_equal p q r s t u v w = λ i. p i ∷ q i ∷ r i ∷ s i ∷ t i ∷ u i ∷ v i ∷ w i ∷ []

-- what stands in a longer list stands in the list or is the last
pub last_or_before : {A : Type 0} (l : List A) (a b : A) (j : ℕ) → get_elem? (l ++ a ∷ []) j ≡ some b → (get_elem? l j ≡ some b) ⊎ ((j ≡ length l) × (a ≡ b))
last_or_before [] a b zero e = inr (refl, some-injective a b e)
last_or_before [] a b (suc j) e = absurd (some-ne-none b (sym e))
last_or_before (x ∷ xs) a b zero e = inl e
last_or_before {A} (x ∷ xs) a b (suc j) e =
    ⊎_elim (λ (t : get_elem? xs j ≡ some b). inl t) (λ (t : (j ≡ length xs) × (a ≡ b)). inr (ap suc t.0, t.1)) (last_or_before xs a b j e)

pub no_mark : (n sb : ℕ) → get_or (replicate n false) sb false ≡ false
no_mark zero sb = refl
no_mark (suc n) zero = refl
no_mark (suc n) (suc sb) = no_mark n sb

-- what holds of each item holds of the one at a place, and of each item and number
pub all_at : {X : Type 0} (P : X → Type 0) (xs : List X) (k : ℕ) (x : X) → All P xs → slice_get xs k ≡ Some x → P x
all_at P xs k x all is = subst P (get_or_from_slice_get xs k x x is) (All-get_or P xs k x (slice_get_within xs k x is) all)

pub numbered_at : {X : Type 0} (P : ℕ × X → Type 0) (xs : List X) (i : ℕ) (x : X) → All P (enumerate_from 0 xs) →
    slice_get xs i ≡ Some x → P (i, x)
numbered_at {X} P xs i x all is =
    let within : i < length xs = slice_get_within xs i x is in
    let here : P (slice_index_or (enumerate_from 0 xs) i (0, x)) =
    All-get_or P (enumerate_from 0 xs) i (0, x) (omega (arith, within, length-enumerate_from 0 xs)) all in
    let found : slice_index_or (enumerate_from 0 xs) i (0, x) ≡ (0 + i, slice_index_or xs i x) =
    get_or-enumerate_from 0 xs i (0, x) within in
    let number : 0 + i ≡ i = omega arith in
    let item : slice_index_or xs i x ≡ x = get_or_from_slice_get xs i x x is in
    subst P (λ j. (number j, item j)) (subst P found here)

-- a sum over a range, with one more number
pub sum_by-range_more : (f : ℕ → ℕ) (n : ℕ) → sum_by f (range_with_len 0 (n + 1)) ≡ sum_by f (range_with_len 0 n) + f n
sum_by-range_more f n =
    let range : range_with_len 0 (n + 1) ≡ range_with_len 0 n ++ n ∷ [] =
    sym (map-id (range_with_len 0 (n + 1))) ∙ map-range_with_len_more (λ k. k) 0 n n (omega arith) ∙ ap (λ (xs : List ℕ). xs ++ n ∷ []) (map-id (range_with_len 0 n)) in
    ap (sum_by f) range ∙ sum_by_push f (range_with_len 0 n) n

-- a list with one more item at its end
pub in_front_of : {A : Type 0} (xs ys : List A) (k : ℕ) → k < length xs → slice_get (xs ++ ys) k ≡ slice_get xs k
in_front_of [] ys k below = absurd (omega (arith, below))
in_front_of (x ∷ xs) ys zero below = refl
in_front_of (x ∷ xs) ys (suc k) below = in_front_of xs ys k (omega (arith, below))

-- a list that was written over all of another
pub taken_front : {A : Type 0} (xs ys : List A) → take (length xs) (xs ++ ys) ≡ xs
taken_front [] ys = refl
taken_front (x ∷ xs) ys = ap (λ l. x ∷ l) (taken_front xs ys)

pub written_whole : {A : Type 0} (n : ℕ) (xs ys : List A) → length xs ≡ n → take n (xs ++ drop (length xs) ys) ≡ xs
written_whole n xs ys all = ap (λ (k : ℕ). take k (xs ++ drop (length xs) ys)) (sym all) ∙ taken_front xs (drop (length xs) ys)
