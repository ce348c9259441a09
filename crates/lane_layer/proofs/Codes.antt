-- What one code tells of its number: the sign, and how near the magnitude is to 127.
use Rattle.std.proofs.Common.{◌≡◌, ℕ, zero, suc, ◌+◌, ◌%◌, ◌-◌, ◌*◌, ◌/◌, ◌^◌, ◌<◌, ◌≤◌, min, max, Bool, true, false, List, [], ◌∷◌, cond, leb, get_or, ℤ, pos, negsuc, unsigned_abs, inl, inr, All, refl, sym, ap, ◌∙◌, arith}
use Rattle.std.specs.Int.Bits.{bit_xor}
use Rattle.std.proofs.lemmas.Bool.{cases_lt, le-leb, lt-leb}
use Rattle.std.proofs.lemmas.Bool.Decides.{nat_tests}
use Rattle.std.proofs.lemmas.Int.{ints}
use Rattle.std.proofs.lemmas.List.Elements.{All-head, All-tail}
use Rattle.std.proofs.lemmas.Nat.{xor_shr}
use Rattle.ssd_geo.specs.RowRule.{IsWithin, differ, is_negative, signed}
use Rattle.minsum_layer.proofs.TwoLeast.{keep}
use Rattle.lane_layer.specs.Rows.{number_of}

-- a code at any place is within the bound of the list, since 0 stands past its end
pub code_within : (codes : List ℕ) → All (λ c. c ≤ 254) codes → (i : ℕ) → get_or codes i 0 ≤ 254
code_within [] h i = omega arith
code_within (c ∷ codes) h zero = All-head (λ c. c ≤ 254) c codes h
code_within (c ∷ codes) h (suc i) = code_within codes (All-tail (λ c. c ≤ 254) c codes h) i

pub number_within : (c : ℕ) → c ≤ 254 → IsWithin 127 (number_of c)
number_within c h = omega (arith, ints)

pub magnitude : (c : ℕ) → c ≤ 254 → unsigned_abs (number_of c) ≡ 127 - min c (254 - c)
magnitude c h = omega (arith, ints)

pub near_within : (c : ℕ) → min c (254 - c) ≤ 127
near_within c = omega arith

nearest_more : (nearest near m : ℕ) → nearest ≤ 127 → near ≤ 127 → m ≡ 127 - near → 127 - max nearest near ≡ min (127 - nearest) m
nearest_more nearest near m h k e = omega arith

second_more : (nearest second near m : ℕ) → nearest ≤ 127 → second ≤ 127 → near ≤ 127 → m ≡ 127 - near → 127 - max second (min nearest near) ≡ min (127 - second) (max (127 - nearest) m)
second_more nearest second near m h k l e = omega arith

-- the two nearest with one code more
pub keep_more : (nearest second near : ℕ) (x : ℤ) → nearest ≤ 127 → second ≤ 127 → near ≤ 127 → unsigned_abs x ≡ 127 - near
    → (127 - max nearest near, 127 - max second (min nearest near)) ≡ keep (127 - nearest, 127 - second) x
keep_more nearest second near x h k l e =
    let first = nearest_more nearest near (unsigned_abs x) h l e in
    let other = second_more nearest second near (unsigned_abs x) h k l e in
    cc

-- the top bit is set exactly at a number below 0
pub top_bit : (c : ℕ) → leb 128 c ≡ is_negative (number_of c)
top_bit c =
    elim (cases_lt c 128) [
      | inl low ↦
          let e : number_of c ≡ pos (127 - c) = omega (arith, ints) in
          lt-leb 128 c low ∙ sym (ap is_negative e)
      | inr high ↦
          let e : number_of c ≡ negsuc (c - 128) = omega (arith, ints) in
          le-leb 128 c high ∙ sym (ap is_negative e)
    ]

top_half : (a : ℕ) → a < 256 → a / 2 ^ 7 ≡ cond (leb 128 a) 1 0
top_half a h = grind (arith, nat_tests)

half_top : (a : ℕ) (b : Bool) → a / 2 ^ 7 ≡ cond b 1 0 → leb 128 a ≡ b
half_top a true e = le-leb 128 a (omega arith)
half_top a false e = lt-leb 128 a (omega arith)

xor_of_bits : (a b : Bool) → bit_xor (cond a 1 0) (cond b 1 0) ≡ cond (differ a b) 1 0
xor_of_bits true true = refl
xor_of_bits true false = refl
xor_of_bits false true = refl
xor_of_bits false false = refl

-- an exclusive or has the product of the signs
pub top_xor : (a b : ℕ) → a < 256 → b < 256 → leb 128 (bit_xor a b) ≡ differ (leb 128 a) (leb 128 b)
top_xor a b h k =
    half_top (bit_xor a b) (differ (leb 128 a) (leb 128 b))
    (xor_shr a b 7 ∙ ap (λ (n : ℕ). bit_xor n (b / 2 ^ 7)) (top_half a h) ∙ ap (λ (n : ℕ). bit_xor (cond (leb 128 a) 1 0) n) (top_half b k) ∙ xor_of_bits (leb 128 a) (leb 128 b))

-- the code that is told: three quarters of a magnitude, with the sign wanted
pub told_code : (sign : Bool) (m : ℕ) → m ≤ 127 → number_of (cond sign (254 - (127 - 3 * m / 4)) (127 - 3 * m / 4)) ≡ signed sign (3 * m / 4)
told_code true m h = omega (arith, ints)
told_code false m h = omega (arith, ints)

pub less : (c : ℕ) → c ≤ 254 → (254 + (256 - c)) % 256 ≡ 254 - c
less c h = omega arith
