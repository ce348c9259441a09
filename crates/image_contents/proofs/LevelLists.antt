-- Lists of levels, of which those so far passed their test.
use Rattle.std.proofs.Common.{◌≡◌, ℕ, ℤ, ◌<◌, ◌==◌, true, false, List, [], ◌∷◌, ◌++◌, length, drop, take, get_or, pos, refl, sym, ap, subst, ◌∙◌, arith, append_assoc}
use Rattle.std.specs.List.{list_all}
use Rattle.std.proofs.lemmas.Grind.{common_steps}
use Rattle.ssd_formats.specs.ImageContents.{is_page}
use Rattle.ssd_geo.specs.Limits.{is_level}
use Rattle.image_contents.specs.Parts.{IsFirstOutside}
use Rattle.shared_lemmas.proofs.Lists.{taken_front}

got_next : {A : Type 0} (xs ys : List A) (x d : A) → get_or (xs ++ x ∷ ys) (length xs) d ≡ x
got_next [] ys x d = refl
got_next (y ∷ xs) ys x d = got_next xs ys x d

long_enough : {A : Type 0} (xs ys : List A) (x : A) → length xs < length (xs ++ x ∷ ys)
long_enough [] ys x = omega arith
long_enough (y ∷ xs) ys x = omega (arith, long_enough xs ys x)

-- the first that doesn't pass stands behind those that did
pub first_outside : (before later all : List ℤ) (level : ℤ) (i : ℕ) → length before ≡ i → list_all is_level before ≡ true → is_level level ≡ false
    → (before ++ level ∷ []) ++ later ≡ all → IsFirstOutside all i
first_outside before later all level i long passed fails is =
    let whole : before ++ level ∷ later ≡ all = sym (append_assoc before (level ∷ []) later) ∙ is in
    subst (λ (n : ℕ). IsFirstOutside all n) long
    (subst (λ (l : List ℤ). IsFirstOutside l (length before)) whole
    (record {
      within = long_enough before later level;
      before = ap (λ l. list_all is_level l) (taken_front before (level ∷ later)) ∙ passed;
      outside = ap is_level (got_next before later level (pos 0)) ∙ fails;
    }))

-- as many levels as a page has cells, each of which a cell may have
pub is_page_if : (cells : ℕ) (levels : List ℤ) → length levels ≡ cells → list_all is_level levels ≡ true → is_page cells levels ≡ true
is_page_if cells levels long right =
    let test : (length levels == cells) ≡ true = grind (arith, common_steps) in
    rw (test, right) refl
