-- Eight cells share two words of noise.
use Rattle.std.proofs.Common.{◌≡◌, ℕ, ◌+◌, ◌-◌, ◌*◌, ◌<◌, ◌≤◌, ◌/◌, ◌%◌, ◌^◌, Bool, true, false, cond, eqb, bit_and, suc, List, [], ◌∷◌, ◌++◌, map, length, take, get_or, ℤ, pos, negsuc, ◌≤ℤ◌, subst, ◌+ℤ◌, ◌-ℤ◌, SFits, to_z, of_z, w16, refl, sym, ◌∙◌, ap, arith, append_assoc, add-one}
use Rattle.std.proofs.lemmas.Int.{to_z-of_z, ints, int_wrap_fits, wrapping_add-bits}
use Rattle.std.proofs.Math.Facts.{Fits-of_z, to_z_pos}
use Rattle.std.proofs.lemmas.Bool.Decides.{nat_tests}
use Rattle.std.proofs.lemmas.Nat.Bits.{and_pow, bit_at-lt}
use Rattle.std.proofs.lemmas.List.FromFn.{map-range_with_len_more}
use Rattle.std.proofs.lemmas.Nat.{pow_pos, shr-shr}
use Rattle.std.proofs.lemmas.Simd.{take_more_put_chunk}
use Rattle.std.proofs.Math.Nat.{mod-lt}
use Rattle.std.specs.Int.{bit_at, int_wrap}
use Rattle.std.specs.List.{range_with_len}
use Rattle.std.specs.Simd.Lanes.{put_chunk, top}
use Rattle.rand_xoshiro.specs.SplitMix64.{mix_u64}
use Rattle.ssd_geo.specs.Cells.{IsCellLaw, aim_of_bit, fresh_level}
use Rattle.ssd_geo.specs.Noise.{noise_of_bits, noise_word, state_after}
use Rattle.ssd_geo.specs.declared.cell_law.CellLaw.{CellLaw}
use Rattle.cell_law.specs.Quad.{quad_level, quad_levels}
use Rattle.shared_lemmas.proofs.Lists.{eight_equal}

-- the level of a cell fits its type
pub level_fits : (law : CellLaw) (bit : Bool) (drawn : ℕ) → IsCellLaw law → SFits w16 (aim_of_bit law bit +ℤ noise_of_bits law.spread drawn)
level_fits law true drawn h =
    let noise : drawn % (2 * law.spread + 1) < 2 * law.spread + 1 = mod-lt drawn (omega arith) in
    omega (arith, ints, h.erased_low, h.programmed_low, h.programmed_high, h.spread_high)
level_fits law false drawn h =
    let noise : drawn % (2 * law.spread + 1) < 2 * law.spread + 1 = mod-lt drawn (omega arith) in
    omega (arith, ints, h.erased_low, h.programmed_low, h.programmed_high, h.spread_high)

-- cell 4n + l of a page is cell l of the four that share word n
fresh_level-quad : (law : CellLaw) (start n l : ℕ) (word : List ℕ) → l < 4 →
    fresh_level law start word (4 * n + l)
    ≡ quad_level law (get_or word (n / 2) 0 / 2 ^ (4 * (n % 2))) (noise_word start n) l
fresh_level-quad law start n l word few =
    let byte : (4 * n + l) / 8 ≡ n / 2 = omega arith in
    let bit : (4 * n + l) % 8 ≡ 4 * (n % 2) + l = omega arith in
    let drawn : (4 * n + l) / 4 ≡ n = omega arith in
    let part : (4 * n + l) % 4 ≡ l = omega arith in
    rw (byte, bit, drawn, part, ← shr-shr (get_or word (n / 2) 0) (4 * (n % 2)) l)

-- cells 8j + l and 8j + 4 + l of a page, which share the two words of noise of byte j
low_cell : (law : CellLaw) (start j l : ℕ) (word : List ℕ) → l < 4 →
    quad_level law (get_or word j 0) (noise_word start (2 * j)) l ≡ fresh_level law start word (8 * j + l)
low_cell law start j l word few =
    let byte : 2 * j / 2 ≡ j = omega arith in
    let half : 2 * j % 2 ≡ 0 = omega arith in
    let whole : get_or word j 0 / 2 ^ (4 * 0) ≡ get_or word j 0 = omega arith in
    let cell : 4 * (2 * j) + l ≡ 8 * j + l = omega arith in
    sym
    (ap (fresh_level law start word) (sym cell)
    ∙ fresh_level-quad law start (2 * j) l word few
    ∙ ap (λ (n : ℕ). quad_level law (get_or word n 0 / 2 ^ (4 * (2 * j % 2))) (noise_word start (2 * j)) l) byte
    ∙ ap (λ (n : ℕ). quad_level law (get_or word j 0 / 2 ^ (4 * n)) (noise_word start (2 * j)) l) half
    ∙ ap (λ (n : ℕ). quad_level law n (noise_word start (2 * j)) l) whole)

high_cell : (law : CellLaw) (start j l : ℕ) (word : List ℕ) → l < 4 →
    quad_level law (get_or word j 0 / 16) (noise_word start (2 * j + 1)) l ≡ fresh_level law start word (8 * j + 4 + l)
high_cell law start j l word few =
    let byte : (2 * j + 1) / 2 ≡ j = omega arith in
    let half : (2 * j + 1) % 2 ≡ 1 = omega arith in
    let cell : 4 * (2 * j + 1) + l ≡ 8 * j + 4 + l = omega arith in
    sym
    (ap (fresh_level law start word) (sym cell)
    ∙ fresh_level-quad law start (2 * j + 1) l word few
    ∙ ap (λ (n : ℕ). quad_level law (get_or word n 0 / 2 ^ (4 * ((2 * j + 1) % 2))) (noise_word start (2 * j + 1)) l) byte
    ∙ ap (λ (n : ℕ). quad_level law (get_or word j 0 / 2 ^ (4 * n)) (noise_word start (2 * j + 1)) l) half)

-- one more item of a list made from a function of the index
next_item : (f : ℕ → ℤ) (m k : ℕ) → k ≡ m + 1 →
    map f (range_with_len 0 k) ≡ map f (range_with_len 0 m) ++ f m ∷ []
next_item f m k e =
    ap (λ (n : ℕ). map f (range_with_len 0 n)) e ∙ map-range_with_len_more f 0 m m (omega arith)

-- four more items
four_more : (f : ℕ → ℤ) (m : ℕ) → map f (range_with_len 0 (m + 4))
    ≡ map f (range_with_len 0 m) ++ f (m + 0) ∷ f (m + 1) ∷ f (m + 2) ∷ f (m + 3) ∷ []
four_more f m =
    let first : m + 0 ≡ m = omega arith in
    let one = next_item f m (m + 1) refl in
    let two = next_item f (m + 1) (m + 2) (omega arith) in
    let three = next_item f (m + 2) (m + 3) (omega arith) in
    let four = next_item f (m + 3) (m + 4) (omega arith) in
    rw (four, three, two, one, first) (simp append_assoc)

-- eight more items
eight_more : (f : ℕ → ℤ) (m : ℕ) → map f (range_with_len 0 (m + 8))
    ≡ map f (range_with_len 0 m) ++ f (m + 0) ∷ f (m + 1) ∷ f (m + 2) ∷ f (m + 3) ∷ f (m + 4 + 0) ∷ f (m + 4 + 1) ∷ f (m + 4 + 2) ∷ f (m + 4 + 3) ∷ []
eight_more f m =
    let end : m + 8 ≡ m + 4 + 4 = omega arith in
    let front = map f (range_with_len 0 m) in
    ap (λ (n : ℕ). map f (range_with_len 0 n)) end
    ∙ four_more f (m + 4)
    ∙ ap (λ (xs : List ℤ). xs ++ f (m + 4 + 0) ∷ f (m + 4 + 1) ∷ f (m + 4 + 2) ∷ f (m + 4 + 3) ∷ []) (four_more f m)
    ∙ append_assoc front (f (m + 0) ∷ f (m + 1) ∷ f (m + 2) ∷ f (m + 3) ∷ []) (f (m + 4 + 0) ∷ f (m + 4 + 1) ∷ f (m + 4 + 2) ∷ f (m + 4 + 3) ∷ [])

-- two more words of noise give the levels of eight more cells
pub record IsByteMore (law : CellLaw) (start j : ℕ) (word : List ℕ) (state : ℕ) (out : List ℤ) : Type 0 where
  pub drawn : state ≡ state_after start (2 * (j + 1))
  pub written : take (8 * (j + 1)) out ≡ map (fresh_level law start word) (range_with_len 0 (8 * (j + 1)))

pub byte_more : (law : CellLaw) (start j : ℕ) (word : List ℕ) (out levels : List ℤ) (before first between second after : ℕ) → IsCellLaw law →
    8 * j + 8 ≤ length out → before ≡ state_after start (2 * j) → (first, between) ≡ mix_u64 before → (second, after) ≡ mix_u64 between →
    levels ≡ quad_levels law (get_or word j 0) first ++ quad_levels law (get_or word j 0 / 16) second →
    take (8 * j) out ≡ map (fresh_level law start word) (range_with_len 0 (8 * j)) →
    IsByteMore law start j word after (put_chunk (8 * j) out (map (to_z w16) (map (of_z w16) levels)))
unfolding noise_word
byte_more law start j word out levels before first between second after lawful within state step again is front =
    let f = fresh_level law start word in
    let byte = get_or word j 0 in
    let first_is : first ≡ noise_word start (2 * j) =
    ap (λ (p : ℕ × ℕ). p.0) step ∙ ap (λ (s : ℕ). (mix_u64 s).0) state in
    let between_is : between ≡ state_after start (2 * j + 1) =
    ap (λ (p : ℕ × ℕ). p.1) step ∙ ap (λ (s : ℕ). (mix_u64 s).1) state ∙ ap (state_after start) (sym (add-one (2 * j))) in
    let second_is : second ≡ noise_word start (2 * j + 1) =
    ap (λ (p : ℕ × ℕ). p.0) again ∙ ap (λ (s : ℕ). (mix_u64 s).0) between_is in
    let end : suc (2 * j + 1) ≡ 2 * (j + 1) = omega arith in
    let after_is : after ≡ state_after start (2 * (j + 1)) =
    ap (λ (p : ℕ × ℕ). p.1) again ∙ ap (λ (s : ℕ). (mix_u64 s).1) between_is ∙ ap (state_after start) end in
    let m = 8 * j in
    let eight = f (m + 0) ∷ f (m + 1) ∷ f (m + 2) ∷ f (m + 3) ∷ f (m + 4 + 0) ∷ f (m + 4 + 1) ∷ f (m + 4 + 2) ∷ f (m + 4 + 3) ∷ [] in
    let levels_are : levels ≡ eight =
    is
    ∙ ap (λ (n : ℕ). quad_levels law byte n ++ quad_levels law (byte / 16) second) first_is
    ∙ ap (λ (n : ℕ). quad_levels law byte (noise_word start (2 * j)) ++ quad_levels law (byte / 16) n) second_is
    ∙ eight_equal (low_cell law start j 0 word (omega arith)) (low_cell law start j 1 word (omega arith)) (low_cell law start j 2 word (omega arith)) (low_cell law start j 3 word (omega arith))
    (high_cell law start j 0 word (omega arith)) (high_cell law start j 1 word (omega arith)) (high_cell law start j 2 word (omega arith)) (high_cell law start j 3 word (omega arith)) in
    let kept : (cell : ℕ) → to_z w16 (of_z w16 (f cell)) ≡ f cell = λ cell. to_z-of_z w16 (f cell) (level_fits law _ _ lawful) in
    let kept_all : map (to_z w16) (map (of_z w16) levels) ≡ eight =
    ap (λ (xs : List ℤ). map (to_z w16) (map (of_z w16) xs)) levels_are
    ∙ eight_equal (kept (m + 0)) (kept (m + 1)) (kept (m + 2)) (kept (m + 3)) (kept (m + 4 + 0)) (kept (m + 4 + 1)) (kept (m + 4 + 2)) (kept (m + 4 + 3)) in
    let further : 8 * (j + 1) ≡ m + 8 = omega arith in
    record {
      drawn = after_is;
      written =
          ap (λ (xs : List ℤ). take (8 * (j + 1)) (put_chunk m out xs)) kept_all
          ∙ take_more_put_chunk m out eight (8 * (j + 1)) (omega arith) (omega arith)
          ∙ ap (λ (xs : List ℤ). xs ++ eight) front
          ∙ sym (eight_more f m)
          ∙ ap (λ (n : ℕ). map f (range_with_len 0 n)) (sym further);
    }

-- a number added to the bits of a level
added : (base : ℤ) (n : ℕ) → SFits w16 base → n < 2 ^ 15 → SFits w16 (base +ℤ pos n) → to_z w16 ((of_z w16 base + n) % 2 ^ 16) ≡ base +ℤ pos n
added base n f small g =
    let bits : of_z w16 base < 2 ^ 16 = (Fits-of_z f).fits in
    wrapping_add-bits w16 (of_z w16 base) n bits (let h : n < 2 ^ 16 = omega arith in h)
    ∙ ap (λ (z : ℤ). int_wrap w16 (z +ℤ to_z w16 n)) (to_z-of_z w16 base f)
    ∙ ap (λ (z : ℤ). int_wrap w16 (base +ℤ z)) (to_z_pos w16 small)
    ∙ int_wrap_fits w16 (base +ℤ pos n) g

-- the lane of a cell: its lowest level, and the remainder that is its noise from there
pub level_lane : (law : CellLaw) (bit : Bool) (drawn : ℕ) (base : ℤ) → IsCellLaw law → base ≡ aim_of_bit law bit -ℤ pos law.spread →
    to_z w16 ((of_z w16 base + drawn % (2 * law.spread + 1)) % 2 ^ 16) ≡ aim_of_bit law bit +ℤ noise_of_bits law.spread drawn
level_lane law bit drawn base lawful is =
    let n = drawn % (2 * law.spread + 1) in
    let noise : n < 2 * law.spread + 1 = mod-lt drawn (omega arith) in
    let spread : law.spread ≤ 4095 = lawful.spread_high in
    let aim_low : (b : Bool) → negsuc 8191 ≤ℤ aim_of_bit law b =
    λ b. elim b as (λ b. negsuc 8191 ≤ℤ aim_of_bit law b) [ true ↦ lawful.erased_low | false ↦ omega (arith, ints, lawful.erased_low, lawful.programmed_low) ] in
    let low : negsuc 8191 ≤ℤ aim_of_bit law bit = aim_low bit in
    let sum : base +ℤ pos n ≡ aim_of_bit law bit +ℤ noise_of_bits law.spread drawn = omega (arith, ints) in
    let whole : SFits w16 (aim_of_bit law bit +ℤ noise_of_bits law.spread drawn) = level_fits law bit drawn lawful in
    let fits : SFits w16 (base +ℤ pos n) = subst (SFits w16) (sym sum) whole in
    let base_fits : SFits w16 base = omega (arith, ints) in
    added base n base_fits (omega arith) fits ∙ sum

-- the test of a bit of a byte
bit_test : (given byte k : ℕ) → given ≡ byte → eqb (bit_and given (2 ^ k)) (2 ^ k) ≡ eqb (bit_at byte k) 1
bit_test given byte k same =
    let power : 0 < 2 ^ k = pow_pos k in
    let digit : bit_at byte k < 2 = bit_at-lt byte k in
    ap (λ (n : ℕ). eqb n (2 ^ k)) (ap (λ (n : ℕ). bit_and n (2 ^ k)) same ∙ and_pow byte k) ∙ tested (bit_at byte k) (2 ^ k) digit power
  where
    tested : (b p : ℕ) → b < 2 → 0 < p → eqb (b * p) p ≡ eqb b 1
    tested b p h some = grind (arith, nat_tests)

-- the level that a lane takes by a bit of a byte
pub lowest_lane : (given byte k : ℕ) (one zero : ℤ) → given ≡ byte → SFits w16 one → SFits w16 zero →
    to_z w16 (cond (top 15 (cond (eqb (bit_and given (2 ^ k)) (2 ^ k)) 65535 0)) (of_z w16 one) (of_z w16 zero)) ≡ cond (eqb (bit_at byte k) 1) one zero
lowest_lane given byte k one zero same f g =
    let chosen : (b : Bool) → to_z w16 (cond (top 15 (cond b 65535 0)) (of_z w16 one) (of_z w16 zero)) ≡ cond b one zero =
    λ b. elim b as (λ b. to_z w16 (cond (top 15 (cond b 65535 0)) (of_z w16 one) (of_z w16 zero)) ≡ cond b one zero) [ true ↦ to_z-of_z w16 one f | false ↦ to_z-of_z w16 zero g ] in
    chosen (eqb (bit_and given (2 ^ k)) (2 ^ k)) ∙ ap (λ (b : Bool). cond b one zero) (bit_test given byte k same)
