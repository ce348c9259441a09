-- Numbers that stand in a list, each once: there are at most as many as there are numbers below the greatest.
use Rattle.std.proofs.Common.{◌≡◌, ◌≢◌, ◌⊎◌, eqb, eq-eqb, ne_eqb, cond, ℕ, zero, suc, ◌<◌, ◌≤◌, List, [], ◌∷◌, ◌++◌, length, refl, sym, ap, subst, inl, inr, ⊎_elim, arith}
use mathlib.Core.Logic.{dite}
use mathlib.Core.Option.{some, some-injective, some-ne-none}
use native.Mathlib.Decide.{ℕ_discrete}
use lib.ListN.{get_elem?}
use Rattle.turn_table.specs.Kept.{AreApart}
use Rattle.turn_table.specs.Passes.{Has}

pub has_at : (xs : List ℕ) (k x : ℕ) → get_elem? xs k ≡ some x → Has xs x
has_at [] k x e = absurd (some-ne-none x (sym e))
has_at (y ∷ ys) zero x e = inl (sym (some-injective y x e))
has_at (y ∷ ys) (suc k) x e = inr (has_at ys k x e)

pub has_append : (xs ys : List ℕ) (x : ℕ) → Has (xs ++ ys) x → Has xs x ⊎ Has ys x
has_append [] ys x h = inr h
has_append (y ∷ xs) ys x h = ⊎_elim (λ (e : x ≡ y). inl (inl e)) (λ (t : Has (xs ++ ys) x). ⊎_elim (λ (u : Has xs x). inl (inr u)) (λ (u : Has ys x). inr u) (has_append xs ys x t)) h

pub has_left : (xs ys : List ℕ) (x : ℕ) → Has xs x → Has (xs ++ ys) x
has_left [] ys x h = absurd h
has_left (y ∷ xs) ys x h = ⊎_elim (λ (e : x ≡ y). inl e) (λ (t : Has xs x). inr (has_left xs ys x t)) h

pub has_right : (xs ys : List ℕ) (x : ℕ) → Has ys x → Has (xs ++ ys) x
has_right [] ys x h = h
has_right (y ∷ xs) ys x h = inr (has_right xs ys x h)

pub has_one : (x y : ℕ) → Has (y ∷ []) x → x ≡ y
has_one x y h = ⊎_elim (λ (e : x ≡ y). e) (λ (t : ⊥). absurd t) h

pub apart_snoc : (xs : List ℕ) (x : ℕ) → AreApart xs → (Has xs x → ⊥) → AreApart (xs ++ x ∷ [])
apart_snoc [] x apart none = (λ h. h, tt)
apart_snoc (y ∷ ys) x apart none =
    let first : Has (ys ++ x ∷ []) y → ⊥ =
    λ (h : Has (ys ++ x ∷ []) y). ⊎_elim (λ (t : Has ys y). apart.0 t) (λ (t : Has (x ∷ []) y). none (inl (sym (has_one y x t)))) (has_append ys (x ∷ []) y h) in
    (first, apart_snoc ys x apart.1 (λ (h : Has ys x). none (inr h)))

-- the numbers without the first x
abbrev without : ℕ → List ℕ → List ℕ
without x [] = []
without x (y ∷ ys) = cond (eqb y x) ys (y ∷ without x ys)

without_same : (x y : ℕ) (ys : List ℕ) → y ≡ x → without x (y ∷ ys) ≡ ys
without_same x y ys e = ap (λ b. cond b ys (y ∷ without x ys)) (eq-eqb y x e)

without_other : (x y : ℕ) (ys : List ℕ) → y ≢ x → without x (y ∷ ys) ≡ y ∷ without x ys
without_other x y ys n = ap (λ b. cond b ys (y ∷ without x ys)) (ne_eqb y x n)

has_without : (x : ℕ) (ys : List ℕ) (z : ℕ) → Has (without x ys) z → Has ys z
has_without x [] z h = h
has_without x (y ∷ ys) z h = dite (ℕ_discrete y x)
    (λ (e : y ≡ x). inr (subst (λ (l : List ℕ). Has l z) (without_same x y ys e) h))
    (λ (n : y ≢ x). ⊎_elim (λ (e : z ≡ y). inl e) (λ (t : Has (without x ys) z). inr (has_without x ys z t)) (subst (λ (l : List ℕ). Has l z) (without_other x y ys n) h))

not_without : (x : ℕ) (ys : List ℕ) → AreApart ys → Has (without x ys) x → ⊥
not_without x [] apart h = h
not_without x (y ∷ ys) apart h = dite (ℕ_discrete y x)
    (λ (e : y ≡ x). apart.0 (subst (Has ys) (sym e) (subst (λ (l : List ℕ). Has l x) (without_same x y ys e) h)))
    (λ (n : y ≢ x). ⊎_elim (λ (e : x ≡ y). n (sym e)) (λ (t : Has (without x ys) x). not_without x ys apart.1 t) (subst (λ (l : List ℕ). Has l x) (without_other x y ys n) h))

apart_without : (x : ℕ) (ys : List ℕ) → AreApart ys → AreApart (without x ys)
apart_without x [] apart = tt
apart_without x (y ∷ ys) apart = dite (ℕ_discrete y x)
    (λ (e : y ≡ x). subst AreApart (sym (without_same x y ys e)) apart.1)
    (λ (n : y ≢ x). let first : Has (without x ys) y → ⊥ = λ (h : Has (without x ys) y). apart.0 (has_without x ys y h) in
    subst AreApart (sym (without_other x y ys n)) (first, apart_without x ys apart.1))

length_without : (x : ℕ) (ys : List ℕ) → length ys ≤ suc (length (without x ys))
length_without x [] = omega arith
length_without x (y ∷ ys) = dite (ℕ_discrete y x)
    (λ (e : y ≡ x). let same = ap length (without_same x y ys e) in omega (arith, same))
    (λ (n : y ≢ x). let other = ap length (without_other x y ys n) in let less = length_without x ys in omega (arith, other, less))

pub few_apart : (n : ℕ) (xs : List ℕ) → AreApart xs → ((x : ℕ) → Has xs x → x < n) → length xs ≤ n
few_apart zero [] apart below = omega arith
few_apart zero (x ∷ xs) apart below = let none : x < 0 = below x (inl refl) in absurd (omega arith)
few_apart (suc n) xs apart below =
    let smaller : (x : ℕ) → Has (without n xs) x → x < n = λ (x : ℕ) (h : Has (without n xs) x).
    let low : x < suc n = below x (has_without n xs x h) in
    let other : x ≢ n = λ (e : x ≡ n). not_without n xs apart (subst (Has (without n xs)) e h) in omega arith in
    let rest = few_apart n (without n xs) (apart_without n xs apart) smaller in
    let most = length_without n xs in omega arith
