-- A codeword fails none of its checks.
use Rattle.std.proofs.Common.{ℕ, zero, suc, ◌≡◌, ◌+◌, ◌≤◌, ◌<◌, Bool, false, List, count_by, refl, sym, arith, subst, cond, fold}
use Rattle.std.specs.Prelude.{sum_by}
use Rattle.std.specs.List.{range_with_len}
use Rattle.ssd_geo.specs.BaseMatrix.{BaseMatrix}
use Rattle.ssd_geo.specs.Bits.{bits_of}
use Rattle.ssd_geo.specs.Codewords.{IsCodeword, failed_checks, is_odd_row, word_bits}

-- no number of a range passes a test
pub count_none : (test : ℕ → Bool) (a n : ℕ) → ((k : ℕ) → a ≤ k → k < a + n → test k ≡ false) → count_by test (range_with_len a n) ≡ 0
count_none test a zero each = refl
count_none test a (suc n) each =
    let first : test a ≡ false = each a (omega arith) (omega arith) in
    let rest : count_by test (range_with_len (a + 1) n) ≡ 0 =
    count_none test (a + 1) n (λ k low high. each k (omega arith) (omega arith)) in
    subst (λ (b : Bool). fold (λ (sum k : ℕ). sum + cond (test k) 1 0) (0 + cond b 1 0) (range_with_len (a + 1) n) ≡ 0)
    (sym first) rest

-- a sum of zeros
pub sum_none : (f : ℕ → ℕ) (a n : ℕ) → ((k : ℕ) → a ≤ k → k < a + n → f k ≡ 0) → sum_by f (range_with_len a n) ≡ 0
sum_none f a zero each = refl
sum_none f a (suc n) each =
    let first : f a ≡ 0 = each a (omega arith) (omega arith) in
    let rest : sum_by f (range_with_len (a + 1) n) ≡ 0 =
    sum_none f (a + 1) n (λ k low high. each k (omega arith) (omega arith)) in
    subst (λ (m : ℕ). fold (λ (sum k : ℕ). sum + f k) (0 + m) (range_with_len (a + 1) n) ≡ 0) (sym first) rest

pub no_check_fails : (m : BaseMatrix) (word : List ℕ) → IsCodeword m word → failed_checks m word ≡ 0
no_check_fails m word even =
    let bits = bits_of (word_bits m) word in
    sum_none (λ i. count_by (is_odd_row m bits i) (range_with_len 0 m.z)) 0 m.mb
    (λ i _ row. count_none (is_odd_row m bits i) 0 m.z (λ r _ inside. even i r (omega arith) (omega arith)))
