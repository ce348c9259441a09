-- The values of a page, eight by eight.
use Rattle.std.proofs.Common.{◌≡◌, ℕ, zero, suc, ◌+◌, ◌-◌, ◌*◌, ◌/◌, ◌%◌, ◌<◌, ◌≤◌, Bool, true, false, not, cond, List, [], ◌∷◌, ◌++◌, map, length, take, get_or, ℤ, pos, to_z, of_z, refl, sym, ◌∙◌, ap, arith, rules, append_assoc}
use Rattle.std.proofs.lemmas.List.{append-nil}
use Rattle.std.proofs.lemmas.List.FromFn.{fill_by_all, get_or-map-range_with_len, length-map-range_with_len, map-range_with_len_more}
use Rattle.std.proofs.lemmas.Int.{to_z-of_z}
use Rattle.std.proofs.lemmas.Simd.{take_more_put_chunk}
use Rattle.std.specs.Simd.Lanes.{put_chunk}
use Rattle.std.specs.Int.{w8}
use Rattle.std.specs.Int.RustNames.{FitsSigned}
use Rattle.std.specs.List.{range_with_len}
use Rattle.ssd_geo.specs.Bits.{bit_of}
use Rattle.ssd_geo.specs.Senses.{five_senses, hard_value, sense_in, soft_value, zeros_at}
use Rattle.ssd_geo.proofs.SenseValues.{senses_stand_in_order}

-- a list made from a function of the index, in two parts
two_parts : (f : ℕ → ℤ) (m n : ℕ) → map f (range_with_len 0 (m + n))
    ≡ map f (range_with_len 0 m) ++ map (λ i. f (m + i)) (range_with_len 0 n)
two_parts f m zero =
    let none : m + 0 ≡ m = omega arith in
    ap (λ (k : ℕ). map f (range_with_len 0 k)) none ∙ sym (append-nil _)
two_parts f m (suc n) =
    let further : m + suc n ≡ m + n + 1 = omega arith in
    let last : suc n ≡ n + 1 = omega arith in
    let front = map f (range_with_len 0 m) in
    let back = map (λ i. f (m + i)) (range_with_len 0 n) in
    ap (λ (k : ℕ). map f (range_with_len 0 k)) further
    ∙ map-range_with_len_more f 0 (m + n) (m + n) (omega arith)
    ∙ ap (λ (xs : List ℤ). xs ++ f (m + n) ∷ []) (two_parts f m n)
    ∙ append_assoc front back (f (m + n) ∷ [])
    ∙ ap (λ (ys : List ℤ). front ++ ys) (sym (map-range_with_len_more (λ i. f (m + i)) 0 n n (omega arith)))
    ∙ ap (λ (k : ℕ). front ++ map (λ i. f (m + i)) (range_with_len 0 k)) (sym last)

-- values that fit their type are kept by their bits
pub kept : (g : ℕ → ℤ) (places : List ℕ) → ((i : ℕ) → FitsSigned w8 (g i)) → map (to_z w8) (map (of_z w8) (map g places)) ≡ map g places
kept g [] fits = refl
kept g (i ∷ places) fits =
    ap (λ (z : ℤ). z ∷ map (to_z w8) (map (of_z w8) (map g places))) (to_z-of_z w8 (g i) (fits i))
    ∙ ap (λ (zs : List ℤ). g i ∷ zs) (kept g places fits)

-- eight more values
pub eight_more : (f g : ℕ → ℤ) (j : ℕ) (out values : List ℤ) → 8 * j + 8 ≤ length out →
    values ≡ map g (range_with_len 0 8) → ((i : ℕ) → i < 8 → g i ≡ f (8 * j + i)) → ((i : ℕ) → FitsSigned w8 (g i)) →
    take (8 * j) out ≡ map f (range_with_len 0 (8 * j)) →
    take (8 * (j + 1)) (put_chunk (8 * j) out (map (to_z w8) (map (of_z w8) values))) ≡ map f (range_with_len 0 (8 * (j + 1)))
eight_more f g j out values within is same fits front =
    let eight = map g (range_with_len 0 8) in
    let stored : map (to_z w8) (map (of_z w8) values) ≡ eight =
    ap (λ (zs : List ℤ). map (to_z w8) (map (of_z w8) zs)) is ∙ kept g (range_with_len 0 8) fits in
    let further : 8 * j + 8 ≡ 8 * (j + 1) = omega arith in
    let all : eight ≡ map (λ i. f (8 * j + i)) (range_with_len 0 8) =
    fill_by_all (λ i. f (8 * j + i)) eight 8 (pos 0) (length-map-range_with_len g 0 8)
    (λ k h. get_or-map-range_with_len g 0 8 k k (pos 0) h (omega arith) ∙ same k h) in
    ap (λ (zs : List ℤ). take (8 * (j + 1)) (put_chunk (8 * j) out zs)) stored
    ∙ take_more_put_chunk (8 * j) out eight (8 * (j + 1)) (omega arith) (omega arith)
    ∙ ap (λ (zs : List ℤ). zs ++ eight) front
    ∙ ap (λ (zs : List ℤ). map f (range_with_len 0 (8 * j)) ++ zs) all
    ∙ sym (two_parts f (8 * j) 8)
    ∙ ap (λ (n : ℕ). map f (range_with_len 0 n)) further

-- the bits of a byte are those of the sense of that byte alone
pub bit_of_byte : (bytes : List ℕ) (j i : ℕ) → i < 8 → bit_of (get_or bytes j 0 ∷ []) i ≡ bit_of bytes (8 * j + i)
bit_of_byte bytes j i h =
    let first : i / 8 ≡ 0 = omega arith in
    let low : i % 8 ≡ i = omega arith in
    let byte : (8 * j + i) / 8 ≡ j = omega arith in
    let place : (8 * j + i) % 8 ≡ i = omega arith in
    rw (first, low, byte, place) refl

-- a bit of a sense of the five, which is in the byte at that place of that sense
bit_of_sense : (n : ℕ) (five : List ℕ) (j i k at : ℕ) → j < n → i < 8 → at ≡ k * n + j →
    bit_of (get_or five at 0 ∷ []) i ≡ bit_of (sense_in n five k) (8 * j + i)
bit_of_sense n five j i k at h l is =
    let place : 8 * at + i ≡ 8 * (k * n) + (8 * j + i) = omega arith in
    bit_of_byte five at i l
    ∙ ap (λ (m : ℕ). bit_of five m) place
    ∙ sym (senses_stand_in_order n five k (8 * j + i) (omega arith))

-- the zeros of five bytes at one place of five senses
pub zeros_of_senses : (n : ℕ) (five : List ℕ) (j i : ℕ) → j < n → i < 8 →
    zeros_at (map (λ byte. byte ∷ []) (get_or five j 0 ∷ get_or five (n + j) 0 ∷ get_or five (2 * n + j) 0
    ∷ get_or five (3 * n + j) 0 ∷ get_or five (4 * n + j) 0 ∷ [])) i
    ≡ zeros_at (five_senses n five) (8 * j + i)
zeros_of_senses n five j i h l =
    let s0 = bit_of_sense n five j i 0 j h l (omega arith) in
    let s1 = bit_of_sense n five j i 1 (n + j) h l (omega arith) in
    let s2 = bit_of_sense n five j i 2 (2 * n + j) h l (omega arith) in
    let s3 = bit_of_sense n five j i 3 (3 * n + j) h l (omega arith) in
    let s4 = bit_of_sense n five j i 4 (4 * n + j) h l (omega arith) in
    rw (s0, s1, s2, s3, s4) refl

zero_of : (bit : Bool) → ◌≡◌ {A = ℕ} (cond bit 0 1) (cond (not bit) 1 0)
zero_of true = refl
zero_of false = refl

-- the zeros of five bytes, one after the other
pub zeros_of_five : (five : List ℕ) (i z₀ z₁ z₂ z₃ z₄ : ℕ) → length five ≡ 5 →
    z₀ ≡ cond (bit_of (get_or five 0 0 ∷ []) i) 0 1 →
    z₁ ≡ cond (bit_of (get_or five 1 0 ∷ []) i) 0 1 →
    z₂ ≡ cond (bit_of (get_or five 2 0 ∷ []) i) 0 1 →
    z₃ ≡ cond (bit_of (get_or five 3 0 ∷ []) i) 0 1 →
    z₄ ≡ cond (bit_of (get_or five 4 0 ∷ []) i) 0 1 →
    z₀ + z₁ + z₂ + z₃ + z₄ ≡ zeros_at (map (λ byte. byte ∷ []) five) i
zeros_of_five (a ∷ b ∷ c ∷ d ∷ e ∷ []) i z₀ z₁ z₂ z₃ z₄ five e₀ e₁ e₂ e₃ e₄ =
    let s₀ = zero_of (bit_of (a ∷ []) i) in
    let s₁ = zero_of (bit_of (b ∷ []) i) in
    let s₂ = zero_of (bit_of (c ∷ []) i) in
    let s₃ = zero_of (bit_of (d ∷ []) i) in
    let s₄ = zero_of (bit_of (e ∷ []) i) in
    omega arith
zeros_of_five five i z₀ z₁ z₂ z₃ z₄ is e₀ e₁ e₂ e₃ e₄ = absurd (omega arith)

-- a soft value fits a byte
pub soft_value_fits : (zeros : ℕ) → FitsSigned w8 (soft_value zeros)
soft_value_fits zero = search rules
soft_value_fits (suc zero) = search rules
soft_value_fits (suc (suc zero)) = search rules
soft_value_fits (suc (suc (suc zero))) = search rules
soft_value_fits (suc (suc (suc (suc zero)))) = search rules
soft_value_fits (suc (suc (suc (suc (suc zero))))) = search rules
soft_value_fits (suc (suc (suc (suc (suc (suc more)))))) = search rules

-- and so does a hard one
pub hard_value_fits : (bit : Bool) → FitsSigned w8 (hard_value bit)
hard_value_fits true = search rules
hard_value_fits false = search rules
