-- The bits of the bytes that hold a list of bits are that list.
use Rattle.std.proofs.Common.{◌≡◌, ℕ, zero, suc, ◌+◌, ◌*◌, ◌/◌, ◌%◌, ◌<◌, ◌==◌, Bool, true, false, cond, List, [], ◌∷◌, length, get_or, take, drop, sym, ap, ◌∙◌, arith}
use Rattle.std.specs.Int.{bit_at}
use Rattle.std.proofs.lemmas.Nat.Bits.{bit_at_lowest, bit_at-suc}
use Rattle.std.proofs.lemmas.List.{get_or-take, get_or-drop, length-take, length-drop}
use Rattle.std.proofs.lemmas.List.FromFn.{fill_by_all, get_or-map-range_with_len}
use Rattle.ssd_geo.specs.Bits.{bit_of, bits_of, byte_of, bytes_of, number_of}

number_bit : (bits : List Bool) (i : ℕ) → i < length bits → (bit_at (number_of bits) i == 1) ≡ get_or bits i false
number_bit [] i h = absurd (omega arith)
number_bit (true ∷ bits) zero h =
    let low : bit_at (number_of (true ∷ bits)) 0 ≡ 1 = bit_at_lowest (number_of (true ∷ bits)) ∙ omega arith in
    ap (λ (n : ℕ). n == 1) low
number_bit (false ∷ bits) zero h =
    let low : bit_at (number_of (false ∷ bits)) 0 ≡ 0 = bit_at_lowest (number_of (false ∷ bits)) ∙ omega arith in
    ap (λ (n : ℕ). n == 1) low
number_bit (b ∷ bits) (suc i) h =
    ap (λ (n : ℕ). n == 1) (bit_at-suc (number_of (b ∷ bits)) i ∙ ap (λ (n : ℕ). bit_at n i) (half b (number_of bits)))
    ∙ number_bit bits i (omega arith)
  where
    half : (b : Bool) (n : ℕ) → (cond b 1 0 + 2 * n) / 2 ≡ n
    half true n = omega arith
    half false n = omega arith

pub bit_of-bytes_of : (bits : List Bool) (i : ℕ) → i < length bits → bit_of (bytes_of bits) i ≡ get_or bits i false
bit_of-bytes_of bits i h =
    let j = i / 8 in
    let part = take 8 (drop (8 * j) bits) in
    let byte : get_or (bytes_of bits) j 0 ≡ byte_of bits j = get_or-map-range_with_len (byte_of bits) 0 ((length bits + 7) / 8) j j 0 (omega arith) (omega arith) in
    let within : i % 8 < length part = omega (arith, length-take 8 (drop (8 * j) bits), length-drop (8 * j) bits) in
    let place : 8 * j + i % 8 ≡ i = omega arith in
    ap (λ (n : ℕ). bit_at n (i % 8) == 1) byte
    ∙ number_bit part (i % 8) within
    ∙ get_or-take 8 (drop (8 * j) bits) (i % 8) false (omega arith)
    ∙ get_or-drop (8 * j) bits (i % 8) false
    ∙ ap (λ (n : ℕ). get_or bits n false) place

pub bits_of-bytes_of : (n : ℕ) (bits : List Bool) → length bits ≡ n → bits_of n (bytes_of bits) ≡ bits
bits_of-bytes_of n bits h = sym (fill_by_all (bit_of (bytes_of bits)) bits n false h (λ k l. sym (bit_of-bytes_of bits k (omega arith))))
