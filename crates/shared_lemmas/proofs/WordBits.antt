-- The bits of a word of 64 make its bytes.
use Rattle.std.proofs.Common.{◌≡◌, ℕ, zero, suc, ◌+◌, ◌-◌, ◌*◌, ◌/◌, ◌%◌, ◌^◌, ◌<◌, ◌≤◌, Bool, true, false, cond, eqb, List, [], ◌∷◌, ◌++◌, map, length, get_or, take, drop, ℤ, pos, refl, sym, ◌∙◌, ap, inl, inr, arith}
use Rattle.std.proofs.lemmas.Bool.{cases_lt}
use Rattle.std.proofs.lemmas.List.{take-map, drop-map, length-take-le, drop-take, drop-drop, get_or-take, get_or_append_left, get_or-append_right, take-take}
use Rattle.std.proofs.lemmas.Nat.{pow_pos, shr-shr}
use Rattle.std.proofs.lemmas.Slice.{take-put_mid}
use Rattle.std.proofs.Math.Nat.{div-add-mod, div-eq_of_lt, mod-eq_of_lt, mod-lt, mul-add-mod_self_left, two-pow-succ}
use borrow.Rule.Slice.PartMut.{put_mid}
use Rattle.std.specs.Int.{w64, to_le_bytes}
use Rattle.std.specs.Simd.Lanes.{chunk, mask_l}
use Rattle.ssd_geo.specs.Bits.{number_of, byte_of}

-- tests that are 255 exactly where a cell's bit is 1 make the number of the bits
pub mask_of_tests : (p : ℤ → Bool) (tests : List ℕ) (cells : List ℤ) → length tests ≡ length cells →
    ((k : ℕ) → k < length cells → get_or tests k 0 ≡ cond (p (get_or cells k (pos 0))) 255 0) →
    mask_l (map (λ test. eqb test 255) tests) ≡ number_of (map p cells)
mask_of_tests p [] [] same each = refl
mask_of_tests p [] (cell ∷ cells) same each = absurd (omega arith)
mask_of_tests p (test ∷ tests) [] same each = absurd (omega arith)
mask_of_tests p (test ∷ tests) (cell ∷ cells) same each =
    let bit : (b : Bool) → eqb (cond b 255 0) 255 ≡ b = λ b. elim b as (λ b. eqb (cond b 255 0) 255 ≡ b) [ true ↦ refl | false ↦ refl ] in
    let first : eqb test 255 ≡ p cell = ap (λ (n : ℕ). eqb n 255) (each 0 (omega arith)) ∙ bit (p cell) in
    let rest : mask_l (map (λ test. eqb test 255) tests) ≡ number_of (map p cells) =
    mask_of_tests p tests cells (omega arith) (λ k h. each (suc k) (omega arith)) in
    ap (λ (b : Bool). cond b 1 0 + 2 * mask_l (map (λ test. eqb test 255) tests)) first
    ∙ ap (λ (n : ℕ). cond (p cell) 1 0 + 2 * n) rest

-- the number of bits without the lowest one
pub half : (bit : Bool) (n : ℕ) → (cond bit 1 0 + 2 * n) / 2 ≡ n
half true n = omega arith
half false n = omega arith

-- the number of the bits from a place on
pub number_of-drop : (k : ℕ) (bits : List Bool) → number_of bits / 2 ^ k ≡ number_of (drop k bits)
number_of-drop zero bits = omega arith
number_of-drop (suc k) [] = div-eq_of_lt (pow_pos (suc k))
number_of-drop (suc k) (bit ∷ bits) =
    let further : suc k ≡ 1 + k = omega arith in
    ap (λ (n : ℕ). number_of (bit ∷ bits) / 2 ^ n) further
    ∙ sym (shr-shr (number_of (bit ∷ bits)) 1 k)
    ∙ ap (λ (n : ℕ). n / 2 ^ k) (half bit (number_of bits))
    ∙ number_of-drop k bits

-- the remainder of a number by twice a power, from that of its half
pub twice : (bit : Bool) (n m : ℕ) → 0 < m → (cond bit 1 0 + 2 * n) % (2 * m) ≡ cond bit 1 0 + 2 * (n % m)
twice bit n m some =
    let low : cond bit 1 0 ≤ 1 = elim bit as (λ b. cond b 1 0 ≤ 1) [ true ↦ omega arith | false ↦ omega arith ] in
    let rest : n % m < m = mod-lt n some in
    let split : cond bit 1 0 + 2 * n ≡ 2 * m * (n / m) + (cond bit 1 0 + 2 * (n % m)) = omega (arith, div-add-mod n m) in
    ap (λ (k : ℕ). k % (2 * m)) split
    ∙ mul-add-mod_self_left (2 * m) (n / m) (cond bit 1 0 + 2 * (n % m))
    ∙ mod-eq_of_lt (let below : cond bit 1 0 + 2 * (n % m) < 2 * m = omega arith in below)

-- the number of the bits before a place
pub number_of-take : (k : ℕ) (bits : List Bool) → number_of bits % 2 ^ k ≡ number_of (take k bits)
number_of-take zero bits = omega arith
number_of-take (suc k) [] = mod-eq_of_lt (pow_pos (suc k))
number_of-take (suc k) (bit ∷ bits) =
    let more : 2 ^ suc k ≡ 2 * 2 ^ k = omega (arith, two-pow-succ k) in
    ap (λ (m : ℕ). number_of (bit ∷ bits) % m) more
    ∙ twice bit (number_of bits) (2 ^ k) (pow_pos k)
    ∙ ap (λ (n : ℕ). cond bit 1 0 + 2 * n) (number_of-take k bits)

-- byte j of the eight that hold a number
pub stored : (n j : ℕ) → j < 8 → get_or (to_le_bytes w64 n) j 0 ≡ n / 2 ^ (8 * j) % 2 ^ 8
stored n zero h = let none : n / 2 ^ (8 * 0) ≡ n = omega arith in ap (λ (m : ℕ). m % 2 ^ 8) (sym none)
stored n (suc zero) h = refl
stored n (suc (suc zero)) h = refl
stored n (suc (suc (suc zero))) h = refl
stored n (suc (suc (suc (suc zero)))) h = refl
stored n (suc (suc (suc (suc (suc zero))))) h = refl
stored n (suc (suc (suc (suc (suc (suc zero)))))) h = refl
stored n (suc (suc (suc (suc (suc (suc (suc zero))))))) h = refl
stored n (suc (suc (suc (suc (suc (suc (suc (suc j)))))))) h = absurd (omega arith)

-- the bytes of the number of 64 cells' bits are the bytes of those cells
pub byte_of_word : (p : ℤ → Bool) (levels : List ℤ) (w j : ℕ) → j < 8 →
    number_of (map p (chunk (64 * w) 64 levels)) / 2 ^ (8 * j) % 2 ^ 8 ≡ byte_of (map p levels) (8 * w + j)
byte_of_word p levels w j h =
    let bits = map p levels in
    let part : map p (chunk (64 * w) 64 levels) ≡ take 64 (drop (64 * w) bits) =
    sym (take-map p 64 (drop (64 * w) levels)) ∙ ap (take 64) (sym (drop-map p (64 * w) levels)) in
    let whole : 64 ≡ 8 * j + (64 - 8 * j) = omega arith in
    let place : 64 * w + 8 * j ≡ 8 * (8 * w + j) = omega arith in
    let rest = drop (8 * (8 * w + j)) bits in
    let from : drop (8 * j) (take 64 (drop (64 * w) bits)) ≡ take (64 - 8 * j) rest =
    ap (λ (n : ℕ). drop (8 * j) (take n (drop (64 * w) bits))) whole
    ∙ drop-take (8 * j) (64 - 8 * j) (drop (64 * w) bits)
    ∙ ap (take (64 - 8 * j)) (drop-drop (8 * j) (64 * w) bits ∙ ap (λ (n : ℕ). drop n bits) place) in
    ap (λ (n : ℕ). n % 2 ^ 8) (number_of-drop (8 * j) (map p (chunk (64 * w) 64 levels)))
    ∙ number_of-take 8 (drop (8 * j) (map p (chunk (64 * w) 64 levels)))
    ∙ ap (λ (xs : List Bool). number_of (take 8 (drop (8 * j) xs))) part
    ∙ ap (λ (xs : List Bool). number_of (take 8 xs)) from
    ∙ ap number_of (take-take 8 (64 - 8 * j) rest (omega arith))

-- the bytes of one more word
pub one_more_word : (p : ℤ → Bool) (levels : List ℤ) (out part : List ℕ) (w word : ℕ) → 8 * w + 8 ≤ length out →
    word ≡ number_of (map p (chunk (64 * w) 64 levels)) → part ≡ to_le_bytes w64 word →
    ((k : ℕ) → k < 8 * w → get_or out k 0 ≡ byte_of (map p levels) k) →
    (k : ℕ) → k < 8 * (w + 1) → get_or (put_mid (8 * w) (8 * w + 8 - 8 * w) out part) k 0 ≡ byte_of (map p levels) k
one_more_word p levels out part w word room is written before k h =
    let long : length part ≡ 8 = ap (λ (xs : List ℕ). length xs) written in
    let front : length (take (8 * w) out) ≡ 8 * w = length-take-le (8 * w) out (omega arith) in
    let taken : get_or (put_mid (8 * w) (8 * w + 8 - 8 * w) out part) k 0 ≡ get_or (take (8 * w) out ++ part) k 0 =
    sym (get_or-take (8 * (w + 1)) (put_mid (8 * w) (8 * w + 8 - 8 * w) out part) k 0 h)
    ∙ ap (λ (xs : List ℕ). get_or xs k 0) (take-put_mid (8 * w) (8 * w + 8 - 8 * w) out part (8 * (w + 1)) (omega arith) (omega arith)) in
    elim (cases_lt k (8 * w)) [
      | inl low ↦ taken ∙ get_or_append_left (take (8 * w) out) part 0 k (omega arith) ∙ get_or-take (8 * w) out k 0 low ∙ before k low
      | inr high ↦
          let j = k - 8 * w in
          let place : 8 * w + j ≡ k = omega arith in
          taken
          ∙ get_or-append_right (take (8 * w) out) part (8 * w) k 0 front high
          ∙ ap (λ (xs : List ℕ). get_or xs j 0) written
          ∙ stored word j (omega arith)
          ∙ ap (λ (n : ℕ). n / 2 ^ (8 * j) % 2 ^ 8) is
          ∙ byte_of_word p levels w j (omega arith)
          ∙ ap (byte_of (map p levels)) place
    ]
