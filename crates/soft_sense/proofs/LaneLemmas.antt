-- The values of eight bits, one to a lane.
use Rattle.std.proofs.Common.{◌≡◌, ℕ, zero, suc, ◌+◌, ◌*◌, ◌%◌, ◌^◌, ◌<◌, ◌≤◌, Bool, true, false, not, cond, eqb, bit_and, All, List, [], ◌∷◌, map, length, get_or, replicate, ℤ, to_z, refl, sym, ◌∙◌, ap, subst, arith, w8}
use Rattle.std.proofs.lemmas.Bool.Decides.{nat_tests}
use Rattle.std.proofs.lemmas.List.FromFn.{get_or-map-range_with_len}
use Rattle.std.proofs.lemmas.Nat.{pow_pos}
use Rattle.std.proofs.lemmas.Nat.Bits.{and_pow, bit_at-lt}
use Rattle.std.specs.Int.{bit_at}
use Rattle.std.specs.List.{range_with_len}
use Rattle.std.specs.Simd.Lanes.{sel_l, top, zip2}
use Rattle.ssd_geo.specs.Bits.{bit_of}
use Rattle.ssd_geo.specs.Senses.{hard_value, soft_value, zeros_at}
use Rattle.soft_sense.proofs.ValueLemmas.{zeros_of_five}
use Rattle.shared_lemmas.proofs.Lists.{eight_equal}

-- the test of a bit alone
is_clear : (byte k : ℕ) → eqb (bit_and byte (2 ^ k)) 0 ≡ not (eqb (bit_at byte k) 1)
is_clear byte k = ap (λ (n : ℕ). eqb n 0) (and_pow byte k) ∙ tested (bit_at byte k) (2 ^ k) (bit_at-lt byte k) (pow_pos k)
  where
    tested : (b p : ℕ) → b < 2 → 0 < p → eqb (b * p) 0 ≡ not (eqb b 1)
    tested zero p h some =
        let none : 0 * p ≡ 0 = omega arith in
        ap (λ (n : ℕ). eqb n 0) none
    tested (suc zero) p h some =
        let one : 1 * p ≡ p = omega arith in
        let set : eqb p 0 ≡ false = grind (arith, nat_tests) in
        ap (λ (n : ℕ). eqb n 0) one ∙ set
    tested (suc (suc b)) p h some = absurd (omega arith)

-- the lane of a bit's hard value
pub hard_lane : (byte k : ℕ) → to_z w8 (cond (top 7 (cond (eqb (bit_and byte (2 ^ k)) 0) 255 0)) 32 224) ≡ hard_value (eqb (bit_at byte k) 1)
hard_lane byte k = ap (λ (b : Bool). to_z w8 (cond (top 7 (cond b 255 0)) 32 224)) (is_clear byte k) ∙ value (eqb (bit_at byte k) 1)
  where
    value : (b : Bool) → to_z w8 (cond (top 7 (cond (not b) 255 0)) 32 224) ≡ hard_value b
    value true = refl
    value false = refl

-- the lane that says whether a bit is 0
pub zero_lane : (byte k : ℕ) → ◌≡◌ {A = ℕ} (cond (top 7 (cond (eqb (bit_and byte (2 ^ k)) 0) 255 0)) 1 0) (cond (eqb (bit_at byte k) 1) 0 1)
zero_lane byte k = ap {B = ℕ} (λ (b : Bool). cond (top 7 (cond b 255 0)) 1 0) (is_clear byte k) ∙ value (eqb (bit_at byte k) 1)
  where
    value : (b : Bool) → ◌≡◌ {A = ℕ} (cond (top 7 (cond (not b) 255 0)) 1 0) (cond b 0 1)
    value true = refl
    value false = refl

-- the lane of a soft value
value_lane : (z : ℕ) → z ≤ 5 →
    to_z w8 (cond (top 7 (cond (eqb z 0) 255 0)) 160 (cond (top 7 (cond (eqb z 1) 255 0)) 208 (cond (top 7 (cond (eqb z 2) 255 0)) 240
    (cond (top 7 (cond (eqb z 3) 255 0)) 16 (cond (top 7 (cond (eqb z 4) 255 0)) 48 96))))) ≡ soft_value z
value_lane zero h = refl
value_lane (suc zero) h = refl
value_lane (suc (suc zero)) h = refl
value_lane (suc (suc (suc zero))) h = refl
value_lane (suc (suc (suc (suc zero)))) h = refl
value_lane (suc (suc (suc (suc (suc zero))))) h = refl
value_lane (suc (suc (suc (suc (suc (suc z)))))) h = absurd (omega arith)

-- a choice of lanes by whether they are a number
abbrev chosen : List ℕ → ℕ → ℕ → List ℕ → List ℕ
chosen zeros n value others = sel_l (map (top 7) (zip2 (λ a b. cond (eqb a b) 255 0) zeros (replicate 8 n))) (replicate 8 value) others

pub eight_values : (zeros : List ℕ) → length zeros ≡ 8 → All (λ n. n ≤ 5) zeros →
    map (to_z w8) (chosen zeros 0 160 (chosen zeros 1 208 (chosen zeros 2 240 (chosen zeros 3 16 (chosen zeros 4 48 (replicate 8 96)))))) ≡ map soft_value zeros
eight_values (a ∷ b ∷ c ∷ d ∷ e ∷ f ∷ g ∷ h ∷ []) long few =
    eight_equal (value_lane a (few 0 0 (omega arith))) (value_lane b (few 1 0 (omega arith))) (value_lane c (few 2 0 (omega arith))) (value_lane d (few 3 0 (omega arith)))
    (value_lane e (few 4 0 (omega arith))) (value_lane f (few 5 0 (omega arith))) (value_lane g (few 6 0 (omega arith))) (value_lane h (few 7 0 (omega arith)))
eight_values zeros long few = absurd (omega arith)

-- the lanes of a byte, and the sums of five of them
abbrev pub zeros_of : ℕ → List ℕ
zeros_of byte = map (λ i. cond (bit_of (byte ∷ []) i) 0 1) (range_with_len 0 8)

abbrev pub five_sums : List ℕ → List ℕ → List ℕ → List ℕ → List ℕ → List ℕ
five_sums a b c d e =
    zip2 (λ x y. (x + y) % 2 ^ 8) (zip2 (λ x y. (x + y) % 2 ^ 8) (zip2 (λ x y. (x + y) % 2 ^ 8) (zip2 (λ x y. (x + y) % 2 ^ 8) a b) c) d) e

one_at_most : (b : Bool) → cond b 0 1 ≤ 1
one_at_most true = omega arith
one_at_most false = omega arith

record IsSum (five : List ℕ) (i sum : ℕ) : Type 0 where
  is : sum ≡ zeros_at (map (λ byte. byte ∷ []) five) i
  few : zeros_at (map (λ byte. byte ∷ []) five) i ≤ 5

sum_lane : (five : List ℕ) (i : ℕ) → length five ≡ 5 →
    IsSum five i (((((cond (bit_of (get_or five 0 0 ∷ []) i) 0 1 + cond (bit_of (get_or five 1 0 ∷ []) i) 0 1) % 2 ^ 8 + cond (bit_of (get_or five 2 0 ∷ []) i) 0 1) % 2 ^ 8
    + cond (bit_of (get_or five 3 0 ∷ []) i) 0 1) % 2 ^ 8 + cond (bit_of (get_or five 4 0 ∷ []) i) 0 1) % 2 ^ 8)
sum_lane five i long =
    let whole = zeros_of_five five i _ _ _ _ _ long refl refl refl refl refl in
    let a = one_at_most (bit_of (get_or five 0 0 ∷ []) i) in
    let b = one_at_most (bit_of (get_or five 1 0 ∷ []) i) in
    let c = one_at_most (bit_of (get_or five 2 0 ∷ []) i) in
    let d = one_at_most (bit_of (get_or five 3 0 ∷ []) i) in
    let e = one_at_most (bit_of (get_or five 4 0 ∷ []) i) in
    record { is = omega arith; few = omega arith }

pub sums_of_five : (five a b c d e : List ℕ) → length five ≡ 5 → a ≡ zeros_of (get_or five 0 0) → b ≡ zeros_of (get_or five 1 0) → c ≡ zeros_of (get_or five 2 0)
    → d ≡ zeros_of (get_or five 3 0) → e ≡ zeros_of (get_or five 4 0)
    → five_sums a b c d e ≡ map (zeros_at (map (λ byte. byte ∷ []) five)) (range_with_len 0 8)
sums_of_five five a b c d e long p q r s t =
    let all : five_sums a b c d e ≡ five_sums (zeros_of (get_or five 0 0)) (zeros_of (get_or five 1 0)) (zeros_of (get_or five 2 0)) (zeros_of (get_or five 3 0)) (zeros_of (get_or five 4 0)) =
    λ i. five_sums (p i) (q i) (r i) (s i) (t i) in
    all
    ∙ eight_equal (sum_lane five 0 long).is (sum_lane five 1 long).is (sum_lane five 2 long).is (sum_lane five 3 long).is
    (sum_lane five 4 long).is (sum_lane five 5 long).is (sum_lane five 6 long).is (sum_lane five 7 long).is

pub few_of_five : (five sums : List ℕ) → length five ≡ 5 → sums ≡ map (zeros_at (map (λ byte. byte ∷ []) five)) (range_with_len 0 8) → All (λ n. n ≤ 5) sums
few_of_five five sums long is =
    let zeros = zeros_at (map (λ byte. byte ∷ []) five) in
    subst (All (λ n. n ≤ 5)) (sym is)
    (λ k d l. subst (λ (n : ℕ). n ≤ 5) (sym (get_or-map-range_with_len zeros 0 8 k k d l (omega arith))) (sum_lane five k long).few)
