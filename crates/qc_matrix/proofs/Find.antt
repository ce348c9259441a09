-- The first number of a range that passes a test.
use Rattle.std.proofs.Common.{◌≡◌, ℕ, zero, suc, ◌+◌, ◌<◌, ◌≤◌, Bool, true, false, inl, inr, Some, None, refl, ap, sym, ◌∙◌, arith}
use Rattle.std.specs.Prelude.{find, ◌||◌}
use Rattle.std.specs.List.{range_with_len, list_any}
use Rattle.std.proofs.lemmas.Bool.{cond-true, cond-false, cases_Bool, cases_order}

-- no number passes
pub find-none : (test : ℕ → Bool) (a n : ℕ) → ((k : ℕ) → a ≤ k → k < a + n → test k ≡ false) → find test (range_with_len a n) ≡ None
find-none test a zero none = refl
find-none test a (suc n) none =
    cond-false (test a) (Some a) (find test (range_with_len (a + 1) n)) (none a (omega arith) (omega arith))
    ∙ find-none test (a + 1) n (λ k low high. none k (omega arith) (omega arith))

-- the number k passes, and none before it does
pub find-some : (test : ℕ → Bool) (a n k : ℕ) → a ≤ k → k < a + n → ((j : ℕ) → a ≤ j → j < k → test j ≡ false) → test k ≡ true
    → find test (range_with_len a n) ≡ Some k
find-some test a zero k low high none passes = absurd (omega arith)
find-some test a (suc n) k low high none passes = elim (cases_order a k) [
  | inl here ↦ cond-true (test a) (Some a) (find test (range_with_len (a + 1) n)) (ap test here ∙ passes) ∙ ap (λ (i : ℕ). Some i) here
  | inr apart ↦ elim apart [
    | inl below ↦
        cond-false (test a) (Some a) (find test (range_with_len (a + 1) n)) (none a (omega arith) below)
        ∙ find-some test (a + 1) n k (omega arith) (omega arith) (λ j from to. none j (omega arith) to) passes
    | inr above ↦ absurd (omega arith)
  ]
]

-- where none is found, none passes
pub none-find : (test : ℕ → Bool) (a n k : ℕ) → find test (range_with_len a n) ≡ None → a ≤ k → k < a + n → test k ≡ false
none-find test a zero k none low high = absurd (omega arith)
none-find test a (suc n) k none low high = elim (cases_Bool (test a)) [
  | inl passes ↦
      let some : find test (range_with_len a (suc n)) ≡ Some a = cond-true (test a) (Some a) (find test (range_with_len (a + 1) n)) passes in
      cc
  | inr fails ↦
      let rest : find test (range_with_len (a + 1) n) ≡ None =
      sym (cond-false (test a) (Some a) (find test (range_with_len (a + 1) n)) fails) ∙ none in
      elim (cases_order a k) [
        | inl here ↦ ap test (sym here) ∙ fails
        | inr apart ↦ elim apart [
          | inl below ↦ none-find test (a + 1) n k rest (omega arith) (omega arith)
          | inr above ↦ absurd (omega arith)
        ]
      ]
]

-- whether a number of a range passes, with one more number
pub list_any-more : (test : ℕ → Bool) (a n : ℕ) → list_any test (range_with_len a (n + 1)) ≡ (list_any test (range_with_len a n) || test (a + n))
list_any-more test a zero =
    let none : a + zero ≡ a = omega arith in
    rw none (elim (test a) as (λ b. (b || false) ≡ b) [ true ↦ refl | false ↦ refl ])
list_any-more test a (suc n) =
    let more : suc n + 1 ≡ suc (n + 1) = omega arith in
    let next : a + suc n ≡ (a + 1) + n = omega arith in
    rw (more, next)
    (ap (λ (b : Bool). test a || b) (list_any-more test (a + 1) n)
    ∙ elim (test a) as (λ b. (b || (list_any test (range_with_len (a + 1) n) || test (a + 1 + n))) ≡ ((b || list_any test (range_with_len (a + 1) n)) || test (a + 1 + n)))
    [ true ↦ refl | false ↦ refl ])
