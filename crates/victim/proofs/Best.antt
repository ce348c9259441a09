-- The candidate with the most garbage, among those so far and among all.
use Rattle.std.proofs.Common.{◌≡◌, ℕ, zero, suc, ◌+◌, ◌<◌, ◌≤◌, inl, inr, List, [], ◌∷◌, length, get_or, Option, Some, None, Bool, true, false, ◌&&◌, cond, refl, arith, nat_lt, ◌∙◌, ◌↔◌, IfSome, IsTrue}
use Rattle.std.specs.Prelude.{IsNone}
use Rattle.std.specs.List.{count_by, list_all, position, position_or_len}
use Rattle.std.proofs.lemmas.Bool.{and_from, cases_eq, le-leb, lt-leb, ltb-false, ltb-true}
use Rattle.std.proofs.lemmas.List.Folds.{list_all_at}
use Rattle.std.proofs.lemmas.List.Sums.{position_or_len_is, sum_by-cons, sum_by_more_le}
use Rattle.ssd_histories.specs.Policies.{count_of_candidates, default_victim_of, has_most_garbage, has_no_more_garbage, is_candidate, is_candidate_at, no_info}
use Rattle.ssd_geo.specs.declared.superblock.SbInfo.{SbInfo}
use Rattle.victim.specs.First.{beats, best_with, garbage_at}
use Rattle.shared_lemmas.proofs.Positions.{all_from, not_placed, placed}

-- what is known of the superblock with this number
abbrev info_at : List SbInfo → ℕ → SbInfo
info_at table sb = get_or table sb no_info

-- among the first i superblocks, none is a candidate, or this candidate has the most garbage and comes first
abbrev pub IsBest : List SbInfo → ℕ → Option ℕ → Type 0
IsBest table i None = (k : ℕ) → k < i → is_candidate_at table k ≡ false
IsBest table i (Some b) =
    (b < i) × (is_candidate_at table b ≡ true)
    × ((k : ℕ) → k < i → is_candidate_at table k ≡ true → garbage_at table k ≤ garbage_at table b)
    × ((k : ℕ) → k < b → is_candidate_at table k ≡ true → garbage_at table k < garbage_at table b)

-- one more that is no candidate changes nothing
best_kept : (table : List SbInfo) (i : ℕ) (best : Option ℕ) → IsBest table i best → is_candidate_at table i ≡ false
    → IsBest table (i + 1) best
best_kept table i None h used = λ k lt. elim (cases_eq k i) [ inl e ↦ rw e used | inr n ↦ h k (omega arith) ]
best_kept table i (Some b) h used = (
  omega arith,
  h.1,
  (λ k lt free. elim (cases_eq k i) [
    | inl e ↦ let bad : is_candidate_at table i ≡ true = rw (← e) free in cc
    | inr n ↦ h.2 k (omega arith) free
  ]),
  h.3,
)

-- a candidate with no more garbage changes nothing
best_stays : (table : List SbInfo) (i b : ℕ) → IsBest table i (Some b) → garbage_at table i ≤ garbage_at table b
    → IsBest table (i + 1) (Some b)
best_stays table i b h le =
    (omega arith, h.1, (λ k lt free. elim (cases_eq k i) [ inl e ↦ rw e le | inr n ↦ h.2 k (omega arith) free ]), h.3)

-- a candidate with more garbage is the best
best_first : (table : List SbInfo) (i : ℕ) → IsBest table i None → is_candidate_at table i ≡ true
    → IsBest table (i + 1) (Some i)
best_first table i h free = (
  omega arith,
  free,
  (λ k lt free_k. elim (cases_eq k i) [
    | inl e ↦ rw e (omega arith)
    | inr n ↦ let used : is_candidate_at table k ≡ false = h k (omega arith) in cc
  ]),
  (λ k lt free_k. let used : is_candidate_at table k ≡ false = h k lt in cc),
)

best_next : (table : List SbInfo) (i b : ℕ) → IsBest table i (Some b) → is_candidate_at table i ≡ true
    → garbage_at table b < garbage_at table i → IsBest table (i + 1) (Some i)
best_next table i b h free less = (
  omega arith,
  free,
  (λ k lt free_k. elim (cases_eq k i) [
    | inl e ↦ rw e (omega arith)
    | inr n ↦ omega (arith, h.2 k (omega arith) free_k)
  ]),
  (λ k lt free_k. omega (arith, h.2 k lt free_k)),
)

best_less : (table : List SbInfo) (i b : ℕ) → is_candidate_at table i ≡ true → IsBest table i (Some b) → (less : Bool)
    → nat_lt (garbage_at table b) (garbage_at table i) ≡ less → IsBest table (i + 1) (cond less (Some i) (Some b))
best_less table i b is_free h true is_less = best_next table i b h is_free (ltb-true _ _ is_less)
best_less table i b is_free h false is_less = best_stays table i b h (ltb-false _ _ is_less)

best_by : (table : List SbInfo) (i : ℕ) (best : Option ℕ) (free : Bool) → is_candidate_at table i ≡ free
    → IsBest table i best → IsBest table (i + 1) (cond (free && beats table i best) (Some i) best)
best_by table i best false is_free h = best_kept table i best h is_free
best_by table i None true is_free h = best_first table i h is_free
best_by table i (Some b) true is_free h = best_less table i b is_free h (nat_lt (garbage_at table b) (garbage_at table i)) refl

pub best_more : (table : List SbInfo) (i : ℕ) (best : Option ℕ) → IsBest table i best
    → IsBest table (i + 1) (best_with table i best)
best_more table i best h = best_by table i best (is_candidate_at table i) refl h

-- no candidate has more garbage than the best of all
no_more_garbage : (table : List SbInfo) (b k : ℕ) (free : Bool) → is_candidate_at table k ≡ free
    → IsBest table (length table) (Some b) → k < length table
    → has_no_more_garbage (info_at table b) (info_at table k) ≡ true
no_more_garbage table b k false is_free h lt = rw is_free refl
no_more_garbage table b k true is_free h lt = rw is_free (le-leb _ _ (h.2 k lt is_free))

-- the best of all has more garbage than each candidate before it
not_most : (table : List SbInfo) (b k : ℕ) (free : Bool) → is_candidate_at table k ≡ free
    → IsBest table (length table) (Some b) → k < b → has_most_garbage table (info_at table k) ≡ false
not_most table b k false is_free h lt = rw is_free refl
not_most table b k true is_free h lt =
    rw is_free
    (list_all_at (has_no_more_garbage (info_at table k)) table b no_info h.0 (rw h.1 (lt-leb _ _ (h.3 k lt is_free))))

-- the best of all is the default victim
most_at : (table : List SbInfo) (b : ℕ) → IsBest table (length table) (Some b)
    → has_most_garbage table (info_at table b) ≡ true
most_at table b h =
    and_from (is_candidate_at table b) (list_all (has_no_more_garbage (info_at table b)) table) h.1
    (all_from (has_no_more_garbage (info_at table b)) table no_info (λ k lt. no_more_garbage table b k (is_candidate_at table k) refl h lt))

pub best_is : (table : List SbInfo) (best : Option ℕ) → IsBest table (length table) best
    → default_victim_of table ≡ best
best_is table None h =
    not_placed (has_most_garbage table) table
    (position_or_len_is (has_most_garbage table) table (length table) no_info (omega arith)
    (λ k lt. rw (h k lt) refl) (λ past. absurd (omega arith)))
best_is table (Some b) h =
    placed (has_most_garbage table) table b
    (position_or_len_is (has_most_garbage table) table b no_info (omega arith)
    (λ k lt. not_most table b k (is_candidate_at table k) refl h lt) (λ _. most_at table b h))
    h.0

-- the best of all, if there is one, is a candidate of the table
pub best_is_candidate : (table : List SbInfo) (best : Option ℕ) → IsBest table (length table) best
    → IfSome best (λ sb. (sb < length table) × IsTrue (is_candidate_at table sb))
best_is_candidate table None h = tt
best_is_candidate table (Some b) h = (h.0, h.1)

none_counted : (p : SbInfo → Bool) (xs : List SbInfo) → ((k : ℕ) → k < length xs → p (get_or xs k no_info) ≡ false)
    → count_by p xs ≡ 0
none_counted p [] fail = refl
none_counted p (x ∷ xs) fail =
    let one : Bool → ℕ = λ b. cond b 1 0 in
    let first : one (p x) ≡ 0 = let e : p x ≡ false = fail zero (omega arith) in rw e refl in
    let rest : count_by p xs ≡ 0 = none_counted p xs (λ k lt. fail (suc k) (omega arith)) in
    sum_by-cons (λ y. cond (p y) 1 0) x xs ∙ omega (arith, first, rest)

-- there is a best of all exactly where there are candidates
pub best_none : (table : List SbInfo) (best : Option ℕ) → IsBest table (length table) best
    → IsNone best ↔ count_of_candidates table ≡ 0
best_none table None h = ((λ e. none_counted is_candidate table h), (λ e. refl))
best_none table (Some b) h = (
  (λ e. cc),
  (λ e. absurd (omega (arith, rw h.1 at (sum_by_more_le (λ info. cond (is_candidate info) 1 0) table b no_info h.0), e))),
)
