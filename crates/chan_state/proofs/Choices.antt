-- The answer of a view may be picked wherever a superblock may be, so where a policy's answer may not, it tells no view.
use Rattle.std.proofs.Common.{◌≡◌, ℕ, zero, suc, ◌<◌, ◌==◌, ◌||◌, not, cond, Bool, true, false, List, [], ◌∷◌, length, get_or, sym, ◌∙◌, ap, subst, Option, Some, None, refl, ◌⊎◌, inl, inr, arith}
use Rattle.std.specs.Prelude.{IfSome, filter, find, unwrap_or}
use Rattle.std.specs.List.{list_any, range_with_len}
use Rattle.std.proofs.lemmas.Bool.{eqb-true}
use Rattle.std.proofs.lemmas.List.FromFn.{get_or-range_with_len, length-range_with_len}
use Rattle.ssd_histories.specs.Blocks.{first_some}
use Rattle.ssd_histories.specs.Policies.{answer_of, candidates, choice_by, default_victim_of, is_after_last, is_candidate_at, is_missing}
use Rattle.ssd_geo.specs.declared.policy_view.PolicyKind.{PolicyKind}
use Rattle.ssd_geo.specs.declared.policy_view.PolicyKind.TheVariants.{Greedy, Oldest, RoundRobin}
use Rattle.ssd_geo.specs.declared.policy_view.PolicyView.{PolicyView}
use Rattle.ssd_geo.specs.declared.superblock.SbInfo.{SbInfo}

-- there is a number, and it passes a test
record IsOne (q : ℕ → Bool) (o : Option ℕ) : Type 0 where
  pub one : ℕ
  pub is : o ≡ Some one
  pub holds : q one ≡ true

-- what is found among those that pass a test passes it
found_first : (q : ℕ → Bool) (y x : ℕ) (o : Option ℕ) (b : Bool) → q y ≡ true → (o ≡ Some x → q x ≡ true) → cond b (Some y) o ≡ Some x → q x ≡ true
found_first q y x o true is rest e = let same : y ≡ x = cc in subst (λ (n : ℕ). q n ≡ true) same is
found_first q y x o false is rest e = rest e

found_by : (p q : ℕ → Bool) (y x : ℕ) (ys : List ℕ) (b : Bool) → q y ≡ b → (find p ys ≡ Some x → q x ≡ true) → find p (cond b (y ∷ ys) ys) ≡ Some x → q x ≡ true
found_by p q y x ys true is rest e = found_first q y x (find p ys) (p y) is rest e
found_by p q y x ys false is rest e = rest e

found_passes : (p q : ℕ → Bool) (xs : List ℕ) (x : ℕ) → find p (filter q xs) ≡ Some x → q x ≡ true
found_passes p q [] x e = cc
found_passes p q (y ∷ ys) x e = found_by p q y x (filter q ys) (q y) refl (found_passes p q ys x) e

-- where one of a list passes two tests, one is found
one_first : (q : ℕ → Bool) (y : ℕ) (o : Option ℕ) (b : Bool) → q y ≡ true → IsOne q o → IsOne q (cond b (Some y) o)
one_first q y o true is rest = record { one = y; is = refl; holds = is }
one_first q y o false is rest = rest

one_by : (p q : ℕ → Bool) (y : ℕ) (ys : List ℕ) (b : Bool) → q y ≡ b → IsOne q (find p ys) → IsOne q (find p (cond b (y ∷ ys) ys))
one_by p q y ys true is rest = one_first q y (find p ys) (p y) is rest
one_by p q y ys false is rest = rest

one_found : (p q : ℕ → Bool) (xs : List ℕ) (k : ℕ) → k < length xs → q (get_or xs k 0) ≡ true → p (get_or xs k 0) ≡ true → IsOne q (find p (filter q xs))
one_found p q [] k lt is passes = absurd (omega arith)
one_found p q (y ∷ ys) zero lt is passes = record {
  one = y;
  is =
      ap {B = Option ℕ} (λ (b : Bool). find p (cond b (y ∷ filter q ys) (filter q ys))) is
      ∙ ap {B = Option ℕ} (λ (b : Bool). cond b (Some y) (find p (filter q ys))) passes;
  holds = is;
}
one_found p q (y ∷ ys) (suc k) lt is passes = one_by p q y (filter q ys) (q y) refl (one_found p q ys k (omega arith) is passes)

-- where a number that passes stands in a list, one that passes is found there
listed_by : (q : ℕ → Bool) (y k : ℕ) (ys : List ℕ) (b : Bool) → (y == k) ≡ b → q k ≡ true → (list_any (λ other. other == k) ys ≡ true → IsOne q (find q ys))
    → (b || list_any (λ other. other == k) ys) ≡ true → (c : Bool) → q y ≡ c → IsOne q (cond c (Some y) (find q ys))
listed_by q y k ys b same is rest any true passes = record { one = y; is = refl; holds = passes }
listed_by q y k ys true same is rest any false fails =
    let here : y ≡ k = eqb-true y k same in
    let both : q k ≡ false = subst (λ (n : ℕ). q n ≡ false) here fails in
    absurd (apart (sym both ∙ is))
  where
    apart : false ≡ true → ⊥
    apart e = cc
listed_by q y k ys false same is rest any false fails = rest any

one_listed : (q : ℕ → Bool) (k : ℕ) (xs : List ℕ) → q k ≡ true → list_any (λ other. other == k) xs ≡ true → IsOne q (find q xs)
one_listed q k [] is any = absurd (apart any)
  where
    apart : false ≡ true → ⊥
    apart e = cc
one_listed q k (y ∷ ys) is any = listed_by q y k ys (y == k) refl is (one_listed q k ys is) any (q y) refl

-- the first of two, where what the first gives passes and one of them is there
one_of : (q : ℕ → Bool) (a b : Option ℕ) → ((x : ℕ) → a ≡ Some x → q x ≡ true) → IsOne q a ⊎ IsOne q b → IsOne q (first_some a b)
one_of q (Some x) b passes either = record { one = x; is = refl; holds = passes x refl }
one_of q None b passes (inl first) = absurd (apart first.one first.is)
  where
    apart : (x : ℕ) → None ≡ Some x → ⊥
    apart x e = cc
one_of q None b passes (inr second) = second

-- the fallback of a table: the default victim, which may be picked
pub record IsFallback (table : List SbInfo) (sb : ℕ) : Type 0 where
  pub is_default : default_victim_of table ≡ Some sb
  pub low : sb < length table
  pub candidate : is_candidate_at table sb ≡ true

among : (table : List SbInfo) (sb : ℕ) → sb < length table → get_or (range_with_len 0 (length table)) sb 0 ≡ sb
among table sb lt = omega (arith, get_or-range_with_len 0 (length table) sb 0 lt)

choice_one : (kind : PolicyKind) (list : List ℕ) (table : List SbInfo) (sb : ℕ) → IsFallback table sb → IsOne (is_candidate_at table) (choice_by kind list table)
choice_one Greedy list table sb fallback = record { one = sb; is = fallback.is_default; holds = fallback.candidate }
choice_one Oldest list table sb fallback =
    one_of (is_candidate_at table) (find (is_missing list) (candidates table)) (find (is_candidate_at table) list)
    (found_passes (is_missing list) (is_candidate_at table) (range_with_len 0 (length table))) (by_list (list_any (λ other. other == sb) list) refl)
  where
    by_list : (b : Bool) → list_any (λ other. other == sb) list ≡ b
        → IsOne (is_candidate_at table) (find (is_missing list) (candidates table)) ⊎ IsOne (is_candidate_at table) (find (is_candidate_at table) list)
    by_list true e = inr (one_listed (is_candidate_at table) sb list fallback.candidate e)
    by_list false e =
        inl (one_found (is_missing list) (is_candidate_at table) (range_with_len 0 (length table)) sb (omega (arith, length-range_with_len 0 (length table), fallback.low))
        (subst (λ (n : ℕ). is_candidate_at table n ≡ true) (sym (among table sb fallback.low)) fallback.candidate)
        (subst (λ (n : ℕ). is_missing list n ≡ true) (sym (among table sb fallback.low)) (ap {B = Bool} (λ (b : Bool). not b) e)))
choice_one RoundRobin list table sb fallback =
    one_of (is_candidate_at table) (find (is_after_last list) (candidates table)) (find (λ _. true) (candidates table))
    (found_passes (is_after_last list) (is_candidate_at table) (range_with_len 0 (length table)))
    (inr (one_found (λ _. true) (is_candidate_at table) (range_with_len 0 (length table)) sb (omega (arith, length-range_with_len 0 (length table), fallback.low))
    (subst (λ (n : ℕ). is_candidate_at table n ≡ true) (sym (among table sb fallback.low)) fallback.candidate) refl))

-- so a view's answer may be picked
pub answer_is_candidate : (view : PolicyView) (table : List SbInfo) (sb : ℕ) → IsFallback table sb → is_candidate_at table (answer_of view table) ≡ true
answer_is_candidate view table sb fallback =
    let one : IsOne (is_candidate_at table) (choice_by view.kind view.list table) = choice_one view.kind view.list table sb fallback in
    subst (λ (o : Option ℕ). is_candidate_at table (unwrap_or o 65535) ≡ true) (sym one.is) one.holds

-- and an answer that may not is no view's
pub not_told : (o : Option PolicyView) (table : List SbInfo) (answer sb : ℕ) → IfSome o (λ view. answer ≡ answer_of view table) → is_candidate_at table answer ≡ false → IsFallback table sb
    → IfSome o (λ view. sb ≡ answer_of view table)
not_told None table answer sb is fails fallback = tt
not_told (Some view) table answer sb is fails fallback =
    absurd (apart (sym fails ∙ ap {B = Bool} (is_candidate_at table) is ∙ answer_is_candidate view table sb fallback))
  where
    apart : false ≡ true → ⊥
    apart e = cc
