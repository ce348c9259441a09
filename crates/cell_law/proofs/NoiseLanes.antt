-- The remainder of a number of 16 bits by a product with the divisor's inverse.
use Rattle.std.proofs.Common.{◌≡◌, ℕ, zero, suc, ◌+◌, ◌-◌, ◌*◌, ◌/◌, ◌%◌, ◌^◌, ◌<◌, ◌≤◌, Bool, true, false, cond, ltb, min, List, [], ◌∷◌, map, length, refl, sym, ◌∙◌, ap, inl, inr, arith, Fits, w16}
use Rattle.std.proofs.lemmas.Bool.{cases_lt}
use Rattle.std.proofs.lemmas.Bool.Decides.{nat_tests}
use Rattle.std.proofs.lemmas.Nat.{mod-mul-add}
use Rattle.std.proofs.Math.Nat.{div-add-mod, mod-eq_of_lt, mod-lt, mul-le-mul_left, mul-le-mul_right}
use Rattle.std.specs.Prelude.{replicate}
use Rattle.std.specs.Simd.Lanes.{Each1, sel_l, top, zip2}
use Rattle.shared_lemmas.proofs.Lists.{eight_equal}

-- the quotient that the product gives: the right one, or one less
pub record IsQuotient (u d q : ℕ) : Type 0 where
  pub low : q * d ≤ u
  pub high : u < q * d + 2 * d

quotient : (u d q : ℕ) → u < 2 ^ 16 → 0 < d → q ≡ u * (65535 / d) / 65536 → IsQuotient u d q
quotient u d q small some is =
    let inv = 65535 / d in
    let whole : d * inv + 65535 % d ≡ 65535 = div-add-mod 65535 d in
    let rest : 65535 % d < d = mod-lt 65535 some in
    let below : inv * d ≤ 65535 = omega arith in
    let above : 65536 ≤ inv * d + d = omega arith in
    let from : q * 65536 ≤ u * inv = omega arith in
    let to : u * inv + 1 ≤ (q + 1) * 65536 = omega arith in
    let a : u * (inv * d) ≤ u * 65535 = mul-le-mul_left u below in
    let b : u * 65536 ≤ u * (inv * d + d) = mul-le-mul_left u above in
    let e : q * 65536 * d ≤ u * inv * d = mul-le-mul_right d from in
    let f : (u * inv + 1) * d ≤ (q + 1) * 65536 * d = mul-le-mul_right d to in
    let most : u ≤ 65535 = omega arith in
    let g : u * d ≤ 65535 * d = mul-le-mul_right d most in
    record { low = omega arith; high = omega arith }

-- what the steps on one lane leave
abbrev quotient_lane : ℕ → ℕ → ℕ
quotient_lane inv u = u * inv % 2 ^ 32 / 2 ^ 16

abbrev rest_lane : ℕ → ℕ → ℕ → ℕ
rest_lane d inv u = (u + (2 ^ 16 - quotient_lane inv u * d % 2 ^ 16)) % 2 ^ 16

abbrev less_lane : ℕ → ℕ → ℕ → ℕ
less_lane d inv u = (rest_lane d inv u + (2 ^ 16 - d)) % 2 ^ 16

-- the product of two numbers of 16 bits fits 32
product_fits : (u inv : ℕ) → u < 2 ^ 16 → inv < 2 ^ 16 → u * inv < 2 ^ 32
product_fits u inv h k =
    let most : u ≤ 65535 = omega arith in
    let a : u * inv ≤ 65535 * inv = mul-le-mul_right inv most in
    omega arith

pub quotient_fits : (u inv : ℕ) → u < 2 ^ 16 → inv < 2 ^ 16 → quotient_lane inv u < 2 ^ 16
quotient_fits u inv h k = omega (arith, product_fits u inv h k)

-- the choice of two lanes by a test of which is less
lesser_lane : (r l : ℕ) → cond (top 15 (cond (ltb r l) 65535 0)) r l ≡ min r l
lesser_lane r l =
    let tested : (b : Bool) → cond (top 15 (cond b 65535 0)) r l ≡ cond b r l =
    λ b. elim b as (λ b. cond (top 15 (cond b 65535 0)) r l ≡ cond b r l) [ true ↦ refl | false ↦ refl ] in
    let is : cond (ltb r l) r l ≡ min r l = grind (arith, nat_tests) in
    tested (ltb r l) ∙ is

-- the product taken off, and once more the divisor where it is left
taken_off : (u d q : ℕ) → u < 2 ^ 16 → 0 < d → d < 2 ^ 15 → IsQuotient u d q →
    let r : ℕ = (u + (2 ^ 16 - q * d % 2 ^ 16)) % 2 ^ 16 in
    min r ((r + (2 ^ 16 - d)) % 2 ^ 16) ≡ u % d
taken_off u d q small some low by =
    let r = (u + (2 ^ 16 - q * d % 2 ^ 16)) % 2 ^ 16 in
    let from : q * d ≤ u = by.low in
    let to : u < q * d + 2 * d = by.high in
    let rest : r ≡ u - q * d = omega arith in
    elim (cases_lt (u - q * d) d) [
      | inl once ↦
          let least : min r ((r + (2 ^ 16 - d)) % 2 ^ 16) ≡ u - q * d = omega arith in
          let whole : u ≡ q * d + (u - q * d) = omega arith in
          least ∙ sym (mod-mul-add q d (u - q * d) once) ∙ ap (λ (n : ℕ). n % d) (sym whole)
      | inr twice ↦
          let least : min r ((r + (2 ^ 16 - d)) % 2 ^ 16) ≡ u - q * d - d = omega arith in
          let whole : u ≡ (q + 1) * d + (u - q * d - d) = omega arith in
          least ∙ sym (mod-mul-add (q + 1) d (u - q * d - d) (omega arith)) ∙ ap (λ (n : ℕ). n % d) (sym whole)
    ]

lane_is_remainder : (u d inv : ℕ) → u < 2 ^ 16 → 0 < d → d < 2 ^ 15 → inv ≡ 65535 / d →
    cond (top 15 (cond (ltb (rest_lane d inv u) (less_lane d inv u)) 65535 0)) (rest_lane d inv u) (less_lane d inv u) ≡ u % d
lane_is_remainder u d inv small some low is =
    let whole : d * inv + 65535 % d ≡ 65535 = ap (λ (n : ℕ). d * n + 65535 % d) is ∙ div-add-mod 65535 d in
    let more : 1 * inv ≤ d * inv = mul-le-mul_right inv some in
    let inv_fits : inv < 2 ^ 16 = omega arith in
    let fits : u * inv < 2 ^ 32 = product_fits u inv small inv_fits in
    let q_is : quotient_lane inv u ≡ u * inv / 65536 = omega arith in
    lesser_lane (rest_lane d inv u) (less_lane d inv u)
    ∙ taken_off u d (quotient_lane inv u) small some low
    (quotient u d (quotient_lane inv u) small some (q_is ∙ ap (λ (n : ℕ). u * n / 65536) is))

-- eight lanes
pub eight_quotients_fit : (numbers : List ℕ) (inv : ℕ) → length numbers ≡ 8 → Each1 (Fits w16) numbers → inv < 2 ^ 16 →
    Each1 (Fits w16) (zip2 (λ a b. a / 2 ^ b) (zip2 (λ a b. a * b % 2 ^ 32) (map (λ u. u) numbers) (replicate 8 inv)) (replicate 8 16))
eight_quotients_fit (a ∷ b ∷ c ∷ d ∷ e ∷ f ∷ g ∷ h ∷ []) inv long fit small =
    let fits : (u : ℕ) → Fits w16 u → Fits w16 (quotient_lane inv u) =
    λ u fit. record { fits = quotient_fits u inv fit.fits small } in (
      fits a fit.0,
      (
        fits b fit.1.0,
        (
          fits c fit.1.1.0,
          (
            fits d fit.1.1.1.0,
            (
              fits e fit.1.1.1.1.0,
              (
                fits f fit.1.1.1.1.1.0,
                (fits g fit.1.1.1.1.1.1.0, (fits h fit.1.1.1.1.1.1.1.0, tt)),
              ),
            ),
          ),
        ),
      ),
    )
eight_quotients_fit numbers inv long fit small = absurd (omega arith)

pub eight_remainders : (numbers : List ℕ) (d inv : ℕ) → length numbers ≡ 8 → Each1 (Fits w16) numbers → 0 < d → d < 2 ^ 15 → inv ≡ 65535 / d →
    let quotients : List ℕ = map (λ q. q) (zip2 (λ a b. a / 2 ^ b) (zip2 (λ a b. a * b % 2 ^ 32) (map (λ u. u) numbers) (replicate 8 inv)) (replicate 8 16)) in
    let rests : List ℕ = zip2 (λ a b. (a + (2 ^ 16 - b)) % 2 ^ 16) numbers (zip2 (λ a b. a * b % 2 ^ 16) quotients (replicate 8 d)) in
    let less : List ℕ = zip2 (λ a b. (a + (2 ^ 16 - b)) % 2 ^ 16) rests (replicate 8 d) in
    sel_l (map (top 15) (zip2 (λ a b. cond (ltb a b) 65535 0) rests less)) rests less ≡ map (λ u. u % d) numbers
eight_remainders (a ∷ b ∷ c ∷ e ∷ f ∷ g ∷ h ∷ i ∷ []) d inv long fit some low is =
    let lane : (u : ℕ) → Fits w16 u → cond (top 15 (cond (ltb (rest_lane d inv u) (less_lane d inv u)) 65535 0)) (rest_lane d inv u) (less_lane d inv u) ≡ u % d =
    λ u fit. lane_is_remainder u d inv fit.fits some low is in
    eight_equal (lane a fit.0) (lane b fit.1.0) (lane c fit.1.1.0) (lane e fit.1.1.1.0) (lane f fit.1.1.1.1.0) (lane g fit.1.1.1.1.1.0)
    (lane h fit.1.1.1.1.1.1.0) (lane i fit.1.1.1.1.1.1.1.0)
eight_remainders numbers d inv long fit some low is = absurd (omega arith)
