-- Where the first LF is, of bytes whose front was looked at before.
use Rattle.std.proofs.Common.{◌≡◌, refl, sym, ap, ◌∙◌, subst, ℕ, suc, ◌+◌, ◌-◌, ◌<◌, ◌≤◌, Bool, true, false, cond, not, List, [], ◌∷◌, ◌++◌, length, get_or, take, drop, Option, Some, None, nat_lt, append_assoc, length-drop, length-take-le, take-append-drop, arith, rules, All}
use Rattle.std.specs.List.{position, position_or_len}
use Rattle.std.proofs.Math.Seq.{take-add}
use Rattle.std.proofs.lemmas.List.{get_or-drop, get_or-take}
use Rattle.std.proofs.lemmas.Grind.{common_steps}
use Rattle.std.proofs.lemmas.List.Elements.{All-append, All-cons, All-nil, All-from_get_or}
use Rattle.std.proofs.lemmas.List.Quantifiers.{position-Some}
use Rattle.shared_lemmas.proofs.Tests.{not_passed}

-- no element passes
abbrev pub NonePasses : (ℕ → Bool) → List ℕ → Type 0
NonePasses p xs = All (λ x. p x ≡ false) xs

none_step : (p : ℕ → Bool) (x : ℕ) (xs : List ℕ) (b : Bool) → p x ≡ b → suc (length xs) ≤ position_or_len p (x ∷ xs) → (length xs ≤ position_or_len p xs → NonePasses p xs) → NonePasses p (x ∷ xs)
none_step p x xs true e h rest = let none : position_or_len p (x ∷ xs) ≡ 0 = rw e refl in absurd (omega (arith, none, h))
none_step p x xs false e h rest =
    let more : position_or_len p (x ∷ xs) ≡ 1 + position_or_len p xs = rw e refl in
    All-cons (λ y. p y ≡ false) x xs e (rest (omega (arith, more, h)))

none_of : (p : ℕ → Bool) (xs : List ℕ) → length xs ≤ position_or_len p xs → NonePasses p xs
none_of p [] h = All-nil (λ y. p y ≡ false)
none_of p (x ∷ xs) h = none_step p x xs (p x) refl h (none_of p xs)

nowhere : (p : ℕ → Bool) (xs : List ℕ) → position p xs ≡ None → NonePasses p xs
nowhere p xs e =
    let no = not_passed (nat_lt (position_or_len p xs) (length xs)) (position_or_len p xs) e in
    none_of p xs (grind (arith, common_steps))

-- neither of the front nor behind it
pub none_behind : (p : ℕ → Bool) (xs : List ℕ) (k : ℕ) → NonePasses p (take k xs) → position p (drop k xs) ≡ None → NonePasses p xs
none_behind p xs k front e = subst (NonePasses p) (take-append-drop k xs) (All-append (λ y. p y ≡ false) (take k xs) (drop k xs) front (nowhere p (drop k xs) e))

-- the first one behind a front
pub first_behind : (p : ℕ → Bool) (xs : List ℕ) (k at : ℕ) → NonePasses p (take k xs) → position p (drop k xs) ≡ Some at → (k + at < length xs) × (p (get_or xs (k + at) 0) ≡ true) × NonePasses p (take (k + at) xs)
first_behind p xs k at front e =
    let found = position-Some p (drop k xs) at 0 e in
    let inside : k + at < length xs = omega (arith, found.0, length-drop k xs) in
    let same : get_or (drop k xs) at 0 ≡ get_or xs (k + at) 0 = get_or-drop k xs at 0 in
    let none : NonePasses p (take at (drop k xs)) = All-from_get_or (λ y. p y ≡ false) (take at (drop k xs)) 0
    (λ i h. let low : i < at = omega (arith, h, length-take-le at (drop k xs) (omega (arith, found.0))) in ap p (get_or-take at (drop k xs) i 0 low) ∙ found.2 i low) in
    let joined : take k xs ++ take at (drop k xs) ≡ take (k + at) xs = sym (take-add k at xs) in
    (inside, ap p (sym same) ∙ found.1, subst (NonePasses p) joined (All-append (λ y. p y ≡ false) (take k xs) (take at (drop k xs)) front none))
