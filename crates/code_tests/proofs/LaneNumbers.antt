-- Numbers within a bound, one after the other.
use Rattle.std.proofs.Common.{ℕ, ℤ, ◌≡◌, ◌++◌, List, [], ◌∷◌, All, sym, subst}
use Rattle.std.proofs.lemmas.List.Elements.{All-append, All-cons, All-nil}
use Rattle.ssd_geo.specs.RowRule.{IsWithin}

pub none_within : (bound : ℕ) (numbers : List ℤ) → numbers ≡ [] → All (IsWithin bound) numbers
none_within bound numbers none = subst (λ (all : List ℤ). All (IsWithin bound) all) (sym none) (All-nil (IsWithin bound))

pub one_more_within : (bound : ℕ) (numbers more : List ℤ) (number : ℤ) → All (IsWithin bound) numbers → IsWithin bound number
    → more ≡ numbers ++ number ∷ [] → All (IsWithin bound) more
one_more_within bound numbers more number all one same =
    subst (λ (list : List ℤ). All (IsWithin bound) list) (sym same)
    (All-append (IsWithin bound) numbers (number ∷ []) all (All-cons (IsWithin bound) number [] one (All-nil (IsWithin bound))))
