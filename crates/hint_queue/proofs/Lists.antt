-- The pages of one number in an order.
use Rattle.std.proofs.Common.{◌≡◌, ◌≢◌, ◌==◌, eqb, eq-eqb, ne_eqb, cond, ℕ, suc, ◌<◌, List, [], ◌∷◌, ◌++◌, length, map, filter, All, refl, sym, ap, ◌∙◌, arith}
use Rattle.std.proofs.lemmas.List.{append-nil, map-append}
use Rattle.std.proofs.lemmas.List.Elements.{All-append, All-cons, All-nil, filter-append}
use Rattle.hint_queue.specs.Kept.{Took, taken_by}
use Rattle.hint_queue.specs.Orders.{pages_by, pages_of}
use Rattle.hint_queue.specs.declared.view.Noted.{Noted}

pub pages_append : (number : ℕ) (xs ys : List Noted) → pages_by number (xs ++ ys) ≡ pages_by number xs ++ pages_by number ys
pages_append number xs ys =
    ap pages_of (filter-append (λ noted. noted.by == number) xs ys)
    ∙ map-append (λ (noted : Noted). noted.page) (filter (λ noted. noted.by == number) xs) (filter (λ noted. noted.by == number) ys)

pub pages_own : (order : List Noted) (noted : Noted) (number : ℕ) → noted.by ≡ number → pages_by number (order ++ noted ∷ []) ≡ pages_by number order ++ noted.page ∷ []
pages_own order noted number is =
    pages_append number order (noted ∷ [])
    ∙ ap (λ b. pages_by number order ++ pages_of (cond b (noted ∷ []) [])) (eq-eqb noted.by number is)

pub pages_other : (order : List Noted) (noted : Noted) (number : ℕ) → noted.by ≢ number → pages_by number (order ++ noted ∷ []) ≡ pages_by number order
pages_other order noted number other =
    pages_append number order (noted ∷ [])
    ∙ (ap (λ b. pages_by number order ++ pages_of (cond b (noted ∷ []) [])) (ne_eqb noted.by number other) ∙ append-nil (pages_by number order))

taken_append : (number : ℕ) (xs ys : List Took) → taken_by number (xs ++ ys) ≡ taken_by number xs ++ taken_by number ys
taken_append number xs ys =
    ap (map (λ (took : Took). took.noted)) (filter-append (λ took. took.by == number) xs ys)
    ∙ map-append (λ (took : Took). took.noted) (filter (λ took. took.by == number) xs) (filter (λ took. took.by == number) ys)

pub taken_own : (order : List Took) (took : Took) (number : ℕ) → took.by ≡ number → taken_by number (order ++ took ∷ []) ≡ taken_by number order ++ took.noted ∷ []
taken_own order took number is =
    taken_append number order (took ∷ [])
    ∙ ap (λ b. taken_by number order ++ map (λ (t : Took). t.noted) (cond b (took ∷ []) [])) (eq-eqb took.by number is)

pub taken_other : (order : List Took) (took : Took) (number : ℕ) → took.by ≢ number → taken_by number (order ++ took ∷ []) ≡ taken_by number order
taken_other order took number other =
    taken_append number order (took ∷ [])
    ∙ (ap (λ b. taken_by number order ++ map (λ (t : Took). t.noted) (cond b (took ∷ []) [])) (ne_eqb took.by number other) ∙ append-nil (taken_by number order))

pub all_snoc : {A : Type 0} (P : A → Type 0) (xs : List A) (x : A) → All P xs → P x → All P (xs ++ x ∷ [])
all_snoc P xs x all one = All-append P xs (x ∷ []) all (All-cons P x [] one (All-nil P))

pub all_mid : {A : Type 0} (P : A → Type 0) (xs : List A) (x : A) (ys : List A) → All P (xs ++ x ∷ ys) → P x
all_mid P [] x ys all = all 0 x (omega arith)
all_mid P (first ∷ xs) x ys all = all_mid P xs x ys (λ k d low. all (suc k) d (omega arith))
