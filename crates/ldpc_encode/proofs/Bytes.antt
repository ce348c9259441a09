-- A list of bits, packed into bytes, has these bits.
use Rattle.std.proofs.Common.{◌≡◌, ℕ, zero, suc, ◌+◌, ◌*◌, ◌/◌, ◌%◌, ◌^◌, ◌<◌, ◌≤◌, Bool, true, false, eqb, List, [], ◌∷◌, length, get_or, take, drop, ap, sym, ◌∙◌, subst, inl, inr, arith}
use Rattle.std.specs.Int.{bit_at}
use Rattle.std.proofs.lemmas.List.{ext_get_or, get_or-drop, get_or-take, get_or_past, length-take}
use Rattle.std.proofs.Math.Nat.{pow-suc}
use Rattle.std.proofs.lemmas.Bool.{cases_lt}
use Rattle.std.proofs.lemmas.Nat.{pow_pos}
use Rattle.std.proofs.lemmas.List.FromFn.{get_or-map-range_with_len, length-map-range_with_len}
use Rattle.std.proofs.lemmas.Nat.Bits.{bit_at-suc, bit_at_lowest, bit_at-zero}
use Rattle.ssd_geo.specs.Bits.{bit_of, bits_of, byte_of, bytes_of, number_of}

-- bit k of the number made of bits is the k-th of them
pub bit_at-number_of : (bits : List Bool) (k : ℕ) → eqb (bit_at (number_of bits) k) 1 ≡ get_or bits k false
bit_at-number_of [] k = ap (λ (x : ℕ). eqb x 1) (bit_at-zero k)
bit_at-number_of (true ∷ bits) zero = ap (λ (x : ℕ). eqb x 1) (bit_at_lowest (1 + 2 * number_of bits) ∙ (let e : (1 + 2 * number_of bits) % 2 ≡ 1 = omega arith in e))
bit_at-number_of (false ∷ bits) zero = ap (λ (x : ℕ). eqb x 1) (bit_at_lowest (0 + 2 * number_of bits) ∙ (let e : (0 + 2 * number_of bits) % 2 ≡ 0 = omega arith in e))
bit_at-number_of (true ∷ bits) (suc k) =
    ap (λ (x : ℕ). eqb x 1) (bit_at-suc (1 + 2 * number_of bits) k ∙ ap (λ (n : ℕ). bit_at n k) (let e : (1 + 2 * number_of bits) / 2 ≡ number_of bits = omega arith in e))
    ∙ bit_at-number_of bits k
bit_at-number_of (false ∷ bits) (suc k) =
    ap (λ (x : ℕ). eqb x 1) (bit_at-suc (0 + 2 * number_of bits) k ∙ ap (λ (n : ℕ). bit_at n k) (let e : (0 + 2 * number_of bits) / 2 ≡ number_of bits = omega arith in e))
    ∙ bit_at-number_of bits k

-- a bit of the bytes that there are
bit-within : (bits : List Bool) (i : ℕ) → i / 8 < (length bits + 7) / 8 → bit_of (bytes_of bits) i ≡ get_or bits i false
bit-within bits i h =
    let place : 8 * (i / 8) + i % 8 ≡ i = omega arith in
    ap (λ (x : ℕ). eqb (bit_at x (i % 8)) 1) (get_or-map-range_with_len (byte_of bits) 0 ((length bits + 7) / 8) (i / 8) (i / 8) 0 h (omega arith))
    ∙ bit_at-number_of (take 8 (drop (8 * (i / 8)) bits)) (i % 8)
    ∙ get_or-take 8 (drop (8 * (i / 8)) bits) (i % 8) false (omega arith)
    ∙ get_or-drop (8 * (i / 8)) bits (i % 8) false
    ∙ ap (λ (k : ℕ). get_or bits k false) place

pub length-bytes_of : (bits : List Bool) → length (bytes_of bits) ≡ (length bits + 7) / 8
length-bytes_of bits = length-map-range_with_len (byte_of bits) 0 ((length bits + 7) / 8)

-- each bit of the bytes is that of the list, which has none past its end
pub bit_of-bytes_of : (bits : List Bool) (i : ℕ) → bit_of (bytes_of bits) i ≡ get_or bits i false
bit_of-bytes_of bits i = elim (cases_lt (i / 8) ((length bits + 7) / 8)) [
  | inl within ↦ bit-within bits i within
  | inr past ↦
      ap (λ (x : ℕ). eqb (bit_at x (i % 8)) 1) (get_or_past (bytes_of bits) (i / 8) 0 (omega (arith, length-bytes_of bits)))
      ∙ ap (λ (x : ℕ). eqb x 1) (bit_at-zero (i % 8))
      ∙ sym (get_or_past bits i false (omega arith))
]

number_of-small : (bits : List Bool) (n : ℕ) → length bits ≤ n → number_of bits < 2 ^ n
number_of-small [] n h = pow_pos n
number_of-small (bit ∷ bits) zero h = absurd (omega arith)
number_of-small (true ∷ bits) (suc n) h =
    let rest : number_of bits < 2 ^ n = number_of-small bits n (omega arith) in
    let double : 2 ^ suc n ≡ 2 ^ n * 2 = pow-suc 2 n in
    omega arith
number_of-small (false ∷ bits) (suc n) h =
    let rest : number_of bits < 2 ^ n = number_of-small bits n (omega arith) in
    let double : 2 ^ suc n ≡ 2 ^ n * 2 = pow-suc 2 n in
    omega arith

pub bytes_of-small : (bits : List Bool) (j : ℕ) → get_or (bytes_of bits) j 0 < 256
bytes_of-small bits j = elim (cases_lt j ((length bits + 7) / 8)) [
  | inl within ↦
      subst (λ (x : ℕ). x < 256) (sym (get_or-map-range_with_len (byte_of bits) 0 ((length bits + 7) / 8) j j 0 within (omega arith)))
      (number_of-small (take 8 (drop (8 * j) bits)) 8 (let e : length (take 8 (drop (8 * j) bits)) ≤ 8 = omega (arith, length-take 8 (drop (8 * j) bits)) in e))
  | inr past ↦ subst (λ (x : ℕ). x < 256) (sym (get_or_past (bytes_of bits) j 0 (omega (arith, length-bytes_of bits)))) (omega arith)
]

pub bits_of-bytes_of : (bits : List Bool) (n : ℕ) → length bits ≡ n → bits_of n (bytes_of bits) ≡ bits
bits_of-bytes_of bits n long =
    ext_get_or false (bits_of n (bytes_of bits)) bits (length-map-range_with_len (bit_of (bytes_of bits)) 0 n ∙ sym long)
    (λ i within.
    let below : i < n = omega (arith, length-map-range_with_len (bit_of (bytes_of bits)) 0 n) in
    get_or-map-range_with_len (bit_of (bytes_of bits)) 0 n i i false below (omega arith) ∙ bit_of-bytes_of bits i)

-- fewer bits are the first ones of more
pub bits_of-fewer : (bytes : List ℕ) (n k v : ℕ) → v < k → k ≤ n → get_or (bits_of n bytes) v false ≡ get_or (bits_of k bytes) v false
bits_of-fewer bytes n k v low fewer =
    get_or-map-range_with_len (bit_of bytes) 0 n v v false (omega arith) (omega arith)
    ∙ sym (get_or-map-range_with_len (bit_of bytes) 0 k v v false low (omega arith))
