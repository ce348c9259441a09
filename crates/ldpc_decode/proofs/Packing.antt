-- Bits and numbers, packed byte by byte.
use Rattle.std.proofs.Common.{◌≡◌, ℕ, zero, suc, ◌+◌, ◌-◌, ◌*◌, ◌^◌, ◌<◌, ◌≤◌, min, Bool, true, false, cond, List, [], ◌∷◌, length, get_or, take, drop, ℤ, pos, negsuc, refl, sym, ap, ◌∙◌, arith}
use Rattle.std.proofs.lemmas.List.{drop_more, get_or-map, length-map, length-drop, take-map, drop-map, take_min}
use Rattle.std.proofs.lemmas.Bool.Decides.{nat_tests}
use Rattle.std.proofs.lemmas.Nat.{pow_pos}
use Rattle.std.proofs.Math.Nat.{two-pow-succ}
use Rattle.std.specs.Int.Signed.{lt_z}
use mir.Val.{bool_byte}
use Rattle.ssd_geo.specs.Bits.{byte_of, number_of}
use Rattle.ssd_geo.specs.Decoding.{decided}
use Rattle.ssd_geo.specs.RowRule.{is_negative}

pub number_small : (n : ℕ) (bits : List Bool) → length bits ≤ n → number_of bits < 2 ^ n
number_small n [] h = pow_pos n
number_small zero (b ∷ bits) h = absurd (omega arith)
number_small (suc n) (true ∷ bits) h = omega (arith, two-pow-succ n, number_small n bits (omega arith))
number_small (suc n) (false ∷ bits) h = omega (arith, two-pow-succ n, number_small n bits (omega arith))

-- the byte that a number's sign makes
pub sign_bit : (number : ℤ) → bool_byte (lt_z number (pos 0)) ≡ cond (is_negative number) 1 0
sign_bit (pos n) = grind (arith, nat_tests)
sign_bit (negsuc n) = refl

pub one_bit : (n : ℕ) (b : Bool) → n ≡ bool_byte b → n ≤ 1
one_bit n true e = omega arith
one_bit n false e = omega arith

-- one bit more in front
pub number_more : (xs : List ℤ) (k byte bit : ℕ) → k < length xs → byte ≡ number_of (drop (length xs - k) (decided xs)) → bit ≡ cond (is_negative (get_or xs (length xs - 1 - k) (pos 0))) 1 0 → 2 * byte + bit ≡ number_of (drop (length xs - (k + 1)) (decided xs))
number_more xs k byte bit h b e =
    let at = length xs - (k + 1) in
    let place : length xs - 1 - k ≡ at = omega arith in
    let next : at + 1 ≡ length xs - k = omega arith in
    let front : drop at (decided xs) ≡ get_or (decided xs) at false ∷ drop (at + 1) (decided xs) = drop_more (decided xs) at false (omega (arith, length-map xs is_negative)) in
    let sign : get_or (decided xs) at false ≡ is_negative (get_or xs at (pos 0)) = get_or-map is_negative xs at (pos 0) false (omega arith) in
    let whole : number_of (drop at (decided xs)) ≡ cond (is_negative (get_or xs at (pos 0))) 1 0 + 2 * number_of (drop (at + 1) (decided xs)) =
    ap number_of front ∙ ap (λ (s : Bool). cond s 1 0 + 2 * number_of (drop (at + 1) (decided xs))) sign in
    let rest : number_of (drop (at + 1) (decided xs)) ≡ byte = ap (λ (n : ℕ). number_of (drop n (decided xs))) next ∙ sym b in
    let own : bit ≡ cond (is_negative (get_or xs at (pos 0))) 1 0 = e ∙ ap (λ (n : ℕ). cond (is_negative (get_or xs n (pos 0))) 1 0) place in
    omega arith

-- both steps of a byte stay below 256
pub number_fits : (xs : List ℤ) (k byte : ℕ) → length xs ≤ 8 → k < length xs → byte ≡ number_of (drop (length xs - k) (decided xs)) → byte < 128
number_fits xs k byte short h b =
    let bits = drop (length xs - k) (decided xs) in
    let few : length bits ≤ 7 = omega (arith, length-drop (length xs - k) (decided xs), length-map xs is_negative) in
    omega (arith, number_small 7 bits few)

-- the numbers of one byte
pub byte_from : (p : List ℤ) (j to : ℕ) → 8 * j < length p → to ≡ min (length p) (8 * j + 8) → number_of (decided (take (to - 8 * j) (drop (8 * j) p))) ≡ byte_of (decided p) j
byte_from p j to h e =
    let bits = decided p in
    let pushed : decided (take (to - 8 * j) (drop (8 * j) p)) ≡ take (to - 8 * j) (drop (8 * j) bits) =
    sym (take-map is_negative (to - 8 * j) (drop (8 * j) p)) ∙ ap (take (to - 8 * j)) (sym (drop-map is_negative (8 * j) p)) in
    let count : to - 8 * j ≡ min 8 (length (drop (8 * j) bits)) = omega (arith, length-drop (8 * j) bits, length-map p is_negative) in
    ap number_of (pushed ∙ ap (λ (n : ℕ). take n (drop (8 * j) bits)) count ∙ take_min 8 (drop (8 * j) bits))
