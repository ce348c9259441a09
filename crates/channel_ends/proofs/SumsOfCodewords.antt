-- The sum of two words of a page whose codewords are codewords is one too: where a check row has an even sum in both it has one in
-- what they are added up to.
use Rattle.std.proofs.Common.{◌≡◌, refl, ap, sym, ◌∙◌, ℕ, zero, suc, ◌+◌, ◌-◌, ◌*◌, Bool, false, List, [], ◌∷◌, ◌++◌, length, map, take, drop, get_or, arith}
use Rattle.std.specs.List.{range_with_len}
use Rattle.ssd_bits.proofs.Sums.{bit_of-bytes_sum}
use Rattle.ldpc_encode.proofs.Sums.{bit_sum-swap}
use Rattle.ssd_geo.specs.BaseMatrix.{BaseMatrix, layer_of}
use Rattle.ssd_geo.specs.Bits.{bit_of, bit_sum, bits_of, bytes_sum}
use Rattle.ssd_geo.specs.Codewords.{IsCodeword, is_odd_sum, word_bits}
use Rattle.ssd_geo.specs.Layer.{variables_of}
use Rattle.ssd_geo.specs.Limits.{Sizes, parity_bytes_of, part_bytes_of, payload_bytes_of}
use Rattle.ssd_geo.specs.PageWord.{code_in, parity_in, part_in}

-- what is cut out of a sum, and put together of sums
none_added : (xs : List ℕ) → bytes_sum xs [] ≡ []
none_added [] = refl
none_added (x ∷ xs) = refl

dropped_sum : (n : ℕ) (xs ys : List ℕ) → drop n (bytes_sum xs ys) ≡ bytes_sum (drop n xs) (drop n ys)
dropped_sum zero xs ys = refl
dropped_sum (suc n) [] ys = refl
dropped_sum (suc n) (x ∷ xs) [] = sym (none_added (drop n xs))
dropped_sum (suc n) (x ∷ xs) (y ∷ ys) = dropped_sum n xs ys

taken_sum : (n : ℕ) (xs ys : List ℕ) → take n (bytes_sum xs ys) ≡ bytes_sum (take n xs) (take n ys)
taken_sum zero xs ys = refl
taken_sum (suc n) [] ys = refl
taken_sum (suc n) (x ∷ xs) [] = refl
taken_sum (suc n) (x ∷ xs) (y ∷ ys) = ap (λ (more : List ℕ). bytes_sum (x ∷ []) (y ∷ []) ++ more) (taken_sum n xs ys)

cut_sum : (n k : ℕ) (xs ys : List ℕ) → take n (drop k (bytes_sum xs ys)) ≡ bytes_sum (take n (drop k xs)) (take n (drop k ys))
cut_sum n k xs ys = ap (λ (bytes : List ℕ). take n bytes) (dropped_sum k xs ys) ∙ taken_sum n (drop k xs) (drop k ys)

joined_sum : (us vs xs ys : List ℕ) → length us ≡ length vs → bytes_sum (us ++ xs) (vs ++ ys) ≡ bytes_sum us vs ++ bytes_sum xs ys
joined_sum [] [] xs ys e = refl
joined_sum [] (v ∷ vs) xs ys e = absurd (omega arith)
joined_sum (u ∷ us) [] xs ys e = absurd (omega arith)
joined_sum (u ∷ us) (v ∷ vs) xs ys e =
    ap (λ (more : List ℕ). bytes_sum (u ∷ []) (v ∷ []) ++ more) (joined_sum us vs xs ys (omega arith))

taken_alike : (n : ℕ) (xs ys : List ℕ) → length xs ≡ length ys → length (take n xs) ≡ length (take n ys)
taken_alike zero xs ys e = refl
taken_alike (suc n) [] [] e = refl
taken_alike (suc n) [] (y ∷ ys) e = absurd (omega arith)
taken_alike (suc n) (x ∷ xs) [] e = absurd (omega arith)
taken_alike (suc n) (x ∷ xs) (y ∷ ys) e = ap (λ (many : ℕ). suc many) (taken_alike n xs ys (omega arith))

cut_alike : (n k : ℕ) (xs ys : List ℕ) → length xs ≡ length ys → length (take n (drop k xs)) ≡ length (take n (drop k ys))
cut_alike n zero xs ys e = taken_alike n xs ys e
cut_alike n (suc k) [] [] e = refl
cut_alike n (suc k) [] (y ∷ ys) e = absurd (omega arith)
cut_alike n (suc k) (x ∷ xs) [] e = absurd (omega arith)
cut_alike n (suc k) (x ∷ xs) (y ∷ ys) e = cut_alike n k xs ys (omega arith)

-- a codeword of a sum of words
pub code_of_sum : (sizes : Sizes) (xs ys : List ℕ) (f : ℕ) → length xs ≡ length ys
    → code_in sizes (bytes_sum xs ys) f ≡ bytes_sum (code_in sizes xs f) (code_in sizes ys f)
code_of_sum sizes xs ys f e =
    let part : ℕ = f * part_bytes_of sizes in
    let parity : ℕ = payload_bytes_of sizes + f * parity_bytes_of sizes in
    let part_end : ℕ = (f + 1) * part_bytes_of sizes in
    let parity_end : ℕ = payload_bytes_of sizes + (f + 1) * parity_bytes_of sizes in
    ap (λ (bytes : List ℕ). bytes ++ parity_in sizes (bytes_sum xs ys) f) (cut_sum (part_end - part) part xs ys)
    ∙ ap (λ (bytes : List ℕ). bytes_sum (part_in sizes xs f) (part_in sizes ys f) ++ bytes) (cut_sum (parity_end - parity) parity xs ys)
    ∙ sym (joined_sum (part_in sizes xs f) (part_in sizes ys f) (parity_in sizes xs f) (parity_in sizes ys f)
    (cut_alike (part_end - part) part xs ys e))

-- the bits of a sum, and the sums of some of them
bits_added : (one other sum : ℕ → Bool) → ((k : ℕ) → sum k ≡ bit_sum (one k) (other k)) → (numbers : List ℕ) (i : ℕ)
    → get_or (map sum numbers) i false ≡ bit_sum (get_or (map one numbers) i false) (get_or (map other numbers) i false)
bits_added one other sum is [] i = refl
bits_added one other sum is (k ∷ numbers) zero = is k
bits_added one other sum is (k ∷ numbers) (suc i) = bits_added one other sum is numbers i

odd_added : (one other sum : List Bool)
    → ((i : ℕ) → get_or sum i false ≡ bit_sum (get_or one i false) (get_or other i false)) → (variables : List ℕ)
    → is_odd_sum sum variables ≡ bit_sum (is_odd_sum one variables) (is_odd_sum other variables)
odd_added one other sum is [] = refl
odd_added one other sum is (i ∷ variables) =
    ap (λ (bit : Bool). bit_sum bit (is_odd_sum sum variables)) (is i)
    ∙ ap (bit_sum (bit_sum (get_or one i false) (get_or other i false))) (odd_added one other sum is variables)
    ∙ bit_sum-swap (get_or one i false) (get_or other i false) (is_odd_sum one variables) (is_odd_sum other variables)

pub sum_is_codeword : (m : BaseMatrix) (xs ys : List ℕ) → length xs ≡ length ys → IsCodeword m xs → IsCodeword m ys
    → IsCodeword m (bytes_sum xs ys)
sum_is_codeword m xs ys e of_xs of_ys = λ i r in_rows in_layer.
    odd_added (bits_of (word_bits m) xs) (bits_of (word_bits m) ys) (bits_of (word_bits m) (bytes_sum xs ys))
    (bits_added (bit_of xs) (bit_of ys) (bit_of (bytes_sum xs ys)) (λ k. bit_of-bytes_sum xs ys k e) (range_with_len 0 (word_bits m)))
    (variables_of (layer_of m i) m.z r)
    ∙ ap (λ (odd : Bool). bit_sum odd (is_odd_sum (bits_of (word_bits m) ys) (variables_of (layer_of m i) m.z r)))
    (of_xs i r in_rows in_layer)
    ∙ of_ys i r in_rows in_layer
