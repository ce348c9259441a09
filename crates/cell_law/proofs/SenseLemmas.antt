-- The bits of a word of cells make its bytes.
use Rattle.std.proofs.Common.{◌≡◌, ℕ, zero, suc, ◌+◌, ◌-◌, ◌*◌, ◌/◌, ◌%◌, ◌^◌, ◌<◌, ◌≤◌, ◌≢◌, Bool, true, false, cond, eqb, List, [], ◌∷◌, ◌++◌, map, length, get_or, take, drop, set, ℤ, pos, refl, sym, ◌∙◌, ap, subst, inl, inr, arith, below_more, get_or-set_other, get_or-set_same}
use Rattle.std.proofs.lemmas.Bool.{cases_lt}
use Rattle.std.proofs.lemmas.List.{take-map, drop-map, length-map, length-take, length-take-le, drop-take, drop-drop, get_or-take, get_or_append_left, get_or-append_right, take-take}
use Rattle.std.proofs.lemmas.List.FromFn.{fill_by_all}
use Rattle.std.proofs.lemmas.Nat.{pow_pos, shr-shr}
use Rattle.std.proofs.lemmas.Slice.{take-put_mid}
use Rattle.std.proofs.Math.Nat.{div-add-mod, div-eq_of_lt, mod-eq_of_lt, mod-lt, mul-add-mod_self_left, two-pow-succ}
use borrow.Rule.Slice.PartMut.{put_mid}
use Rattle.std.specs.Int.{w64, to_le_bytes}
use Rattle.std.specs.List.{range_with_len}
use Rattle.std.specs.Simd.Lanes.{chunk, mask_l}
use Rattle.ssd_geo.specs.Bits.{number_of, byte_of, bytes_of}
use Rattle.shared_lemmas.proofs.WordBits.{byte_of_word, half, number_of-take}

-- a byte of the bits of cells is the number of its eight
byte_of-map : (p : ℤ → Bool) (levels : List ℤ) (j : ℕ) →
    byte_of (map p levels) j ≡ number_of (map p (chunk (8 * j) 8 levels))
byte_of-map p levels j = ap number_of (ap (take 8) (drop-map p (8 * j) levels) ∙ take-map p 8 (drop (8 * j) levels))

-- the number of eight bits is that of a byte
pub byte_fits : (p : ℤ → Bool) (levels : List ℤ) (j : ℕ) → number_of (map p (chunk (8 * j) 8 levels)) < 256
byte_fits p levels j =
    let rest = drop (8 * j) levels in
    let low : number_of (map p (chunk (8 * j) 8 levels)) ≡ number_of (map p rest) % 2 ^ 8 =
    ap number_of (sym (take-map p 8 rest)) ∙ sym (number_of-take 8 (map p rest)) in
    omega (arith, low)

-- one more byte
pub one_more_byte : (p : ℤ → Bool) (levels : List ℤ) (out : List ℕ) (j byte : ℕ) → j < length out →
    byte ≡ number_of (map p (chunk (8 * j) 8 levels)) →
    ((k : ℕ) → k < j → get_or out k 0 ≡ byte_of (map p levels) k) →
    (k : ℕ) → k < j + 1 → get_or (set out j byte) k 0 ≡ byte_of (map p levels) k
one_more_byte p levels out j byte within is before =
    below_more _ _
    (λ k h. let other : k ≢ j = omega arith in rw get_or-set_other (before k h))
    (get_or-set_same out j byte 0 within ∙ is ∙ sym (byte_of-map p levels j))

-- all bytes
pub all_bytes : (p : ℤ → Bool) (levels : List ℤ) (out : List ℕ) → length levels ≡ 8 * length out →
    ((k : ℕ) → k < length out → get_or out k 0 ≡ byte_of (map p levels) k) →
    out ≡ bytes_of (map p levels)
all_bytes p levels out cells each =
    let bytes : length out ≡ (length (map p levels) + 7) / 8 = rw (length-map levels p) (omega arith) in
    fill_by_all (byte_of (map p levels)) out (length out) 0 refl each
    ∙ ap (λ (n : ℕ). map (byte_of (map p levels)) (range_with_len 0 n)) bytes
