-- What holds of each item of a list holds of each item of a list with one item more, if it holds of that one.
use Rattle.std.proofs.Common.{ℕ, ◌≡◌, ◌≢◌, List, [], ◌∷◌, ◌++◌, length, slice_get, Some, sym, subst, ◌∙◌}
use Rattle.std.proofs.lemmas.Option.{same_Some}
use mathlib.Core.Logic.{dite}
use native.Mathlib.Decide.{ℕ_discrete}
use Rattle.chan_fits.proofs.ToldBlocks.{pushed_before, pushed_last}

pub grown : {A : Type 0} (P : ℕ → A → Type 0) (xs : List A) (x : A) (n : ℕ) → n ≡ length xs
    → ((k : ℕ) (a : A) → slice_get xs k ≡ Some a → P k a) → P n x
    → (k : ℕ) (a : A) → slice_get (xs ++ x ∷ []) k ≡ Some a → P k a
grown {A = A} P xs x n long before last k a at =
    dite (ℕ_discrete k n)
    (λ (e : k ≡ n).
    let is : x ≡ a = same_Some x a (sym (pushed_last xs x k (e ∙ long)) ∙ at) in
    subst (λ (m : ℕ). P m a) (sym e) (subst (λ (y : A). P n y) is last))
    (λ (other : k ≢ n). before k a (sym (pushed_before xs x k (λ (e : k ≡ length xs). other (e ∙ sym long))) ∙ at))

-- and so of two lists side by side
pub grown_both : {A B : Type 0} (P : ℕ → A → B → Type 0) (xs : List A) (ys : List B) (x : A) (y : B) (n : ℕ) → n ≡ length xs
    → n ≡ length ys → ((k : ℕ) (a : A) (b : B) → slice_get xs k ≡ Some a → slice_get ys k ≡ Some b → P k a b) → P n x y
    → (k : ℕ) (a : A) (b : B) → slice_get (xs ++ x ∷ []) k ≡ Some a → slice_get (ys ++ y ∷ []) k ≡ Some b → P k a b
grown_both {A = A} {B = B} P xs ys x y n long long' before last k a b at at' =
    dite (ℕ_discrete k n)
    (λ (e : k ≡ n).
    let is : x ≡ a = same_Some x a (sym (pushed_last xs x k (e ∙ long)) ∙ at) in
    let is' : y ≡ b = same_Some y b (sym (pushed_last ys y k (e ∙ long')) ∙ at') in
    subst (λ (m : ℕ). P m a b) (sym e) (subst (λ (z : A). P n z b) is (subst (λ (z : B). P n x z) is' last)))
    (λ (other : k ≢ n).
    before k a b (sym (pushed_before xs x k (λ (e : k ≡ length xs). other (e ∙ sym long))) ∙ at)
    (sym (pushed_before ys y k (λ (e : k ≡ length ys). other (e ∙ sym long'))) ∙ at'))
