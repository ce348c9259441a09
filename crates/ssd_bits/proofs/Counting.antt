-- How many of the first bits are 1, counted one by one, and a number's ones.
use Rattle.std.proofs.Common.{◌≡◌, ℕ, zero, suc, ◌+◌, ◌*◌, ◌/◌, ◌%◌, ◌^◌, ◌<◌, ◌≤◌, List, Bool, true, false, cond, eqb, get_or, refl, ap, ◌∙◌, arith, zero-add}
use Rattle.std.specs.Prelude.{count_ones}
use Rattle.std.specs.Int.{bit_at}
use Rattle.std.proofs.lemmas.List.FromFn.{map-range_with_len_more}
use Rattle.std.proofs.Math.Nat.{pow-suc}
use Rattle.std.proofs.lemmas.Nat.{ones_cat}
use Rattle.std.proofs.lemmas.List.Sums.{sum_by_push}
use Rattle.std.proofs.lemmas.Nat.Bits.{bit_at-suc, bit_at_lowest}
use Rattle.ssd_bits.specs.Runs.{is_one}
use Rattle.ssd_geo.specs.Bits.{bit_of, bits_of, weight_of}
use lib.Count.{ones, ones_in}

-- what a test counts for
abbrev pub one_if : Bool → ℕ
one_if b = cond b 1 0

-- how many of the first n numbers pass a test
abbrev pub count_to : (ℕ → Bool) → ℕ → ℕ
count_to test zero = 0
count_to test (suc n) = count_to test n + one_if (test n)

-- the first n and then the next m
pub count_to-add : (test : ℕ → Bool) (n m : ℕ) → count_to test (n + m) ≡ count_to test n + count_to (λ k. test (n + k)) m
count_to-add test n zero =
    let none : n + zero ≡ n = omega arith in
    rw none (omega arith)
count_to-add test n (suc m) =
    let more : n + suc m ≡ suc (n + m) = omega arith in
    let before : count_to test (n + m) ≡ count_to test n + count_to (λ k. test (n + k)) m = count_to-add test n m in
    rw more (omega arith)

-- tests that agree below n pass as many
pub count_to-same : (test other : ℕ → Bool) (n : ℕ) → ((k : ℕ) → k < n → test k ≡ other k) → count_to test n ≡ count_to other n
count_to-same test other zero same = refl
count_to-same test other (suc n) same =
    let before : count_to test n ≡ count_to other n = count_to-same test other n (λ k h. same k (omega arith)) in
    let last : one_if (test n) ≡ one_if (other n) = ap one_if (same n (omega arith)) in
    omega arith

pub count_to_le : (test : ℕ → Bool) (n : ℕ) → count_to test n ≤ n
count_to_le test zero = omega arith
count_to_le test (suc n) =
    let before : count_to test n ≤ n = count_to_le test n in
    let last : one_if (test n) ≤ 1 = elim (test n) as (λ b. one_if b ≤ 1) [ true ↦ omega arith | false ↦ omega arith ] in
    omega arith

ones-zero : count_ones 0 ≡ 0
unfolding ones ones_in
ones-zero = refl

ones-one : count_ones 1 ≡ 1
unfolding ones ones_in
ones-one = refl

-- a digit has one 1 where it is 1
ones-digit : (b : ℕ) → b < 2 → count_ones b ≡ one_if (eqb b 1)
ones-digit zero h = ones-zero
ones-digit (suc zero) h = ones-one
ones-digit (suc (suc b)) h = absurd (omega arith)

-- a number of k digits has as many ones as digits that are 1
pub ones-count_to : (k n : ℕ) → n < 2 ^ k → count_ones n ≡ count_to (is_one n) k
ones-count_to zero n h =
    let none : n ≡ 0 = omega arith in
    ap (λ (x : ℕ). count_ones x) none ∙ ones-zero
ones-count_to (suc k) n h =
    let half : n / 2 < 2 ^ k = omega (arith, pow-suc 2 k) in
    let digits : count_ones n ≡ count_ones (n / 2) + count_ones (n % 2) =
    ap (λ (x : ℕ). count_ones x) (let e : n ≡ n / 2 * 2 ^ 1 + n % 2 = omega arith in e) ∙ ones_cat 1 (n / 2) (n % 2) (omega arith) in
    let high : count_ones (n / 2) ≡ count_to (is_one (n / 2)) k = ones-count_to k (n / 2) half in
    let low : count_ones (n % 2) ≡ one_if (eqb (n % 2) 1) = ones-digit (n % 2) (omega arith) in
    let first : count_to (is_one n) 1 ≡ one_if (eqb (n % 2) 1) = zero-add (one_if (is_one n 0)) ∙ ap (λ (x : ℕ). one_if (eqb x 1)) (bit_at_lowest n) in
    let rest : count_to (λ j. is_one n (1 + j)) k ≡ count_to (is_one (n / 2)) k =
    count_to-same (λ j. is_one n (1 + j)) (is_one (n / 2)) k
    (λ j _. ap (λ (x : ℕ). eqb x 1) (ap (λ (i : ℕ). bit_at n i) (let e : 1 + j ≡ suc j = omega arith in e) ∙ bit_at-suc n j)) in
    let whole : count_to (is_one n) (suc k) ≡ count_to (is_one n) 1 + count_to (λ j. is_one n (1 + j)) k =
    ap (λ (i : ℕ). count_to (is_one n) i) (let e : suc k ≡ 1 + k = omega arith in e) ∙ count_to-add (is_one n) 1 k in
    omega arith

-- the ones among the first bits are counted one by one
pub weight_of-bits_of : (bytes : List ℕ) (n : ℕ) → weight_of (bits_of n bytes) ≡ count_to (bit_of bytes) n
weight_of-bits_of bytes zero = refl
weight_of-bits_of bytes (suc n) =
    let more : suc n ≡ n + 1 = omega arith in
    let before : weight_of (bits_of n bytes) ≡ count_to (bit_of bytes) n = weight_of-bits_of bytes n in
    let last : weight_of (bits_of (suc n) bytes) ≡ weight_of (bits_of n bytes) + one_if (bit_of bytes n) =
    ap (λ (k : ℕ). weight_of (bits_of k bytes)) more
    ∙ ap weight_of (map-range_with_len_more (bit_of bytes) 0 n n (omega arith))
    ∙ sum_by_push (λ (bit : Bool). one_if bit) (bits_of n bytes) (bit_of bytes n) in
    last ∙ ap (λ (k : ℕ). k + one_if (bit_of bytes n)) before

-- the bits of one more number are counted
pub count_to-more : (bytes : List ℕ) (from n w : ℕ) → w < 2 ^ n → ((k : ℕ) → k < n → is_one w k ≡ bit_of bytes (from + k))
    → count_to (bit_of bytes) (from + n) ≡ count_to (bit_of bytes) from + count_ones w
count_to-more bytes from n w fits read =
    let bits : count_ones w ≡ count_to (λ k. bit_of bytes (from + k)) n =
    ones-count_to n w fits ∙ count_to-same (is_one w) (λ k. bit_of bytes (from + k)) n read in
    let whole : count_to (bit_of bytes) (from + n) ≡ count_to (bit_of bytes) from + count_to (λ k. bit_of bytes (from + k)) n =
    count_to-add (bit_of bytes) from n in
    omega arith

-- a bit of a byte of the list is the bit of the list there
pub is_one-byte : (bytes : List ℕ) (i k : ℕ) → k < 8 → is_one (get_or bytes i 0) k ≡ bit_of bytes (8 * i + k)
is_one-byte bytes i k low =
    let q : (8 * i + k) / 8 ≡ i = omega arith in
    let m : (8 * i + k) % 8 ≡ k = omega arith in
    rw (q, m) refl
