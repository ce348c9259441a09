-- The first number that passes two tests is the first of those that pass one that passes the other.
use Rattle.std.proofs.Common.{◌≡◌, ℕ, zero, suc, ◌+◌, ◌<◌, ◌≤◌, inl, inr, List, ◌∷◌, Option, Some, None, Bool, true, false, ◌&&◌, cond, refl, arith, ap, ◌∙◌, sym, not, nat_le, nat_lt, get_or, length}
use Rattle.std.specs.Prelude.{option_to_list}
use Rattle.std.specs.List.{filter, find, range_with_len}
use Rattle.std.proofs.lemmas.Bool.{cases_eq, le-leb, lt-leb, ltb-false, ltb-true}
use Rattle.ssd_histories.specs.Policies.{candidates, is_after_last, is_candidate_at, is_missing}
use Rattle.ssd_geo.specs.declared.superblock.SbInfo.{SbInfo}
use Rattle.victim.specs.First.{IsFirst, start_after}
use Rattle.victim.specs.Listed.{AreListed}

-- a number that fails one of the tests comes to nothing
passed_by : (q : ℕ → Bool) (k : ℕ) (rest : List ℕ) (a b : Bool) → q k ≡ b → (a && b) ≡ false
    → find q (cond a (k ∷ rest) rest) ≡ find q rest
passed_by q k rest true true is_b fails = cc
passed_by q k rest true false is_b fails = rw is_b refl
passed_by q k rest false b is_b fails = refl

passed_over : (p q : ℕ → Bool) (k : ℕ) (rest : List ℕ) → (p k && q k) ≡ false
    → find q (cond (p k) (k ∷ filter p rest) (filter p rest)) ≡ find q (filter p rest)
passed_over p q k rest fails = passed_by q k (filter p rest) (p k) (q k) refl fails

-- a number that passes both is found
found_by : (q : ℕ → Bool) (k : ℕ) (rest : List ℕ) (a b : Bool) → q k ≡ b → (a && b) ≡ true
    → find q (cond a (k ∷ rest) rest) ≡ Some k
found_by q k rest true true is_b passes = rw is_b refl
found_by q k rest true false is_b passes = cc
found_by q k rest false b is_b passes = cc

found : (p q : ℕ → Bool) (k : ℕ) (rest : List ℕ) → (p k && q k) ≡ true
    → find q (cond (p k) (k ∷ filter p rest) (filter p rest)) ≡ Some k
found p q k rest passes = found_by q k (filter p rest) (p k) (q k) refl passes

none_from : (p q : ℕ → Bool) (from n : ℕ) → ((k : ℕ) → from ≤ k → k < from + n → (p k && q k) ≡ false)
    → find q (filter p (range_with_len from n)) ≡ None
none_from p q from zero none = refl
none_from p q from (suc n) none =
    passed_over p q from (range_with_len (from + 1) n) (none from (omega arith) (omega arith))
    ∙ none_from p q (from + 1) n (λ k low high. none k (omega arith) (omega arith))

first_from : (p q : ℕ → Bool) (from n first : ℕ) → from ≤ first → first < from + n → (p first && q first) ≡ true
    → ((k : ℕ) → from ≤ k → k < first → (p k && q k) ≡ false)
    → find q (filter p (range_with_len from n)) ≡ Some first
first_from p q from zero first low high here before = absurd (omega arith)
first_from p q from (suc n) first low high here before =
    elim (cases_eq from first) [
      | inl e ↦ found p q from (range_with_len (from + 1) n) (rw e here) ∙ ap (λ k. Some k) e
      | inr ne ↦
          passed_over p q from (range_with_len (from + 1) n) (before from (omega arith) (omega arith))
          ∙ first_from p q (from + 1) n first (omega arith) (omega arith) here (λ k low high. before k (omega arith) high)
    ]

pub first_is : (p q : ℕ → Bool) (n : ℕ) (first : Option ℕ) → IsFirst (λ k. p k && q k) n first
    → find q (filter p (range_with_len 0 n)) ≡ first
first_is p q n None none = none_from p q 0 n (λ k low high. none k (omega arith))
first_is p q n (Some first) h =
    first_from p q 0 n first (omega arith) (omega arith) h.1 (λ k low high. h.2 k high)

-- the first is the same by two tests that agree on all numbers
pub first_agrees : (p q : ℕ → Bool) (n : ℕ) (first : Option ℕ) → ((k : ℕ) → k < n → p k ≡ q k) → IsFirst p n first
    → IsFirst q n first
first_agrees p q n None same none = λ k lt. sym (same k lt) ∙ none k lt
first_agrees p q n (Some first) same h =
    (h.0, sym (same first h.0) ∙ h.1, (λ k lt. sym (same k (omega (arith, h.0))) ∙ h.2 k lt))

after_by : (last sb : ℕ) (after : Bool) → nat_lt last sb ≡ after → nat_le (last + 1) sb ≡ after
after_by last sb true is_after = le-leb _ _ (omega (arith, ltb-true last sb is_after))
after_by last sb false is_after = lt-leb _ _ (omega (arith, ltb-false last sb is_after))

-- a number is at or after the start exactly where it comes after the last answer
start_is : (last : Option ℕ) (sb : ℕ) → nat_le (start_after last) sb ≡ is_after_last (option_to_list last) sb
start_is None sb = le-leb 0 sb (omega arith)
start_is (Some last) sb = after_by last sb (nat_lt last sb) refl

pub after_is : (table : List SbInfo) (last first : Option ℕ)
    → IsFirst (λ sb. is_candidate_at table sb && nat_le (start_after last) sb) (length table) first
    → find (is_after_last (option_to_list last)) (candidates table) ≡ first
after_is table last first h =
    first_is (is_candidate_at table) (is_after_last (option_to_list last)) (length table) first
    (first_agrees (λ sb. is_candidate_at table sb && nat_le (start_after last) sb)
    (λ sb. is_candidate_at table sb && is_after_last (option_to_list last) sb) (length table) first
    (λ sb lt. ap (λ b. is_candidate_at table sb && b) (start_is last sb)) h)

pub missing_is : (table : List SbInfo) (list : List ℕ) (len : ℕ) (marks : List Bool) (first : Option ℕ)
    → AreListed list len marks
    → IsFirst (λ sb. is_candidate_at table sb && not (get_or marks sb false)) (length table) first
    → find (is_missing list) (candidates table) ≡ first
missing_is table list len marks first listed h =
    first_is (is_candidate_at table) (is_missing list) (length table) first
    (first_agrees (λ sb. is_candidate_at table sb && not (get_or marks sb false))
    (λ sb. is_candidate_at table sb && is_missing list sb) (length table) first
    (λ sb lt. ap (λ b. is_candidate_at table sb && not b) (listed.marked sb)) h)
