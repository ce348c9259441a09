-- Each codeword of a page's word that is all 0 is one, of each base matrix.
use Rattle.std.proofs.Common.{◌≡◌, refl, ap, ◌∙◌, ℕ, zero, suc, ◌+◌, ◌-◌, ◌*◌, ◌/◌, ◌%◌, ◌==◌, ◌++◌, Bool, false, List, [], ◌∷◌, map, take, drop, get_or}
use Rattle.std.specs.Prelude.{slice_range}
use Rattle.std.proofs.lemmas.List.{get_or-drop}
use Rattle.std.specs.List.{range_with_len}
use Rattle.std.specs.Int.{bit_at}
use Rattle.std.proofs.lemmas.Nat.Bits.{bit_at-zero}
use Rattle.ssd_geo.specs.BaseMatrix.{BaseMatrix, layer_of}
use Rattle.ssd_geo.specs.Bits.{bit_of, bit_sum, bits_of}
use Rattle.ssd_geo.specs.Codewords.{IsCodeword, is_odd_sum, word_bits}
use Rattle.ssd_geo.specs.Layer.{variables_of}
use Rattle.ssd_geo.specs.Limits.{Sizes, parity_bytes_of, part_bytes_of, payload_bytes_of}
use Rattle.ssd_geo.specs.PageWord.{code_in, parity_in, part_in}
use Rattle.ssd_geo.specs.StripeSum.{zero_word}

-- no byte of the word is another, and where that is so, no bit is 1
zero_byte : (n i : ℕ) → get_or (zero_word n) i 0 ≡ 0
zero_byte zero i = refl
zero_byte (suc n) zero = refl
zero_byte (suc n) (suc i) = zero_byte n i

zero_bit : (word : List ℕ) → ((i : ℕ) → get_or word i 0 ≡ 0) → (i : ℕ) → bit_of word i ≡ false
zero_bit word zeros i =
    ap (λ (byte : ℕ). bit_at byte (i % 8) == 1) (zeros (i / 8)) ∙ ap (λ (bit : ℕ). bit == 1) (bit_at-zero (i % 8))

-- no bit is 1 where a test is false of each number
no_bit : (test : ℕ → Bool) → ((k : ℕ) → test k ≡ false) → (xs : List ℕ) (i : ℕ) → get_or (map test xs) i false ≡ false
no_bit test h [] i = refl
no_bit test h (x ∷ xs) zero = h x
no_bit test h (x ∷ xs) (suc i) = no_bit test h xs i

-- the sum of any bits of these is even
even_sum : (bits : List Bool) → ((i : ℕ) → get_or bits i false ≡ false) → (variables : List ℕ) → is_odd_sum bits variables ≡ false
even_sum bits h [] = refl
even_sum bits h (variable ∷ variables) =
    ap (λ (bit : Bool). bit_sum bit (is_odd_sum bits variables)) (h variable) ∙ even_sum bits h variables

zeros_codeword : (m : BaseMatrix) (word : List ℕ) → ((i : ℕ) → get_or word i 0 ≡ 0) → IsCodeword m word
zeros_codeword m word zeros = λ i r in_rows in_layer.
    even_sum (bits_of (word_bits m) word)
    (no_bit (bit_of word) (zero_bit word zeros) (range_with_len 0 (word_bits m)))
    (variables_of (layer_of m i) m.z r)

-- what is cut out of it is all 0, and so is what is put together of such
taken_zero : (n : ℕ) (bytes : List ℕ) → ((i : ℕ) → get_or bytes i 0 ≡ 0) → (i : ℕ) → get_or (take n bytes) i 0 ≡ 0
taken_zero zero bytes zeros i = refl
taken_zero (suc n) [] zeros i = refl
taken_zero (suc n) (byte ∷ bytes) zeros zero = zeros 0
taken_zero (suc n) (byte ∷ bytes) zeros (suc i) = taken_zero n bytes (λ k. zeros (suc k)) i

both_zero : (xs ys : List ℕ) → ((i : ℕ) → get_or xs i 0 ≡ 0) → ((i : ℕ) → get_or ys i 0 ≡ 0) → (i : ℕ) → get_or (xs ++ ys) i 0 ≡ 0
both_zero [] ys of_xs of_ys i = of_ys i
both_zero (x ∷ xs) ys of_xs of_ys zero = of_xs 0
both_zero (x ∷ xs) ys of_xs of_ys (suc i) = both_zero xs ys (λ k. of_xs (suc k)) of_ys i

cut_zero : (n from to : ℕ) (i : ℕ) → get_or (slice_range (zero_word n) from to) i 0 ≡ 0
cut_zero n from to i =
    taken_zero (to - from) (drop from (zero_word n))
    (λ k. get_or-drop from (zero_word n) k 0 ∙ zero_byte n (from + k)) i

-- so each codeword of a page's word that is all 0 is one
pub zero_codewords : (sizes : Sizes) (m : BaseMatrix) (n f : ℕ) → IsCodeword m (code_in sizes (zero_word n) f)
zero_codewords sizes m n f =
    zeros_codeword m (code_in sizes (zero_word n) f)
    (both_zero (part_in sizes (zero_word n) f) (parity_in sizes (zero_word n) f)
    (cut_zero n (f * part_bytes_of sizes) ((f + 1) * part_bytes_of sizes))
    (cut_zero n (payload_bytes_of sizes + f * parity_bytes_of sizes) (payload_bytes_of sizes + (f + 1) * parity_bytes_of sizes)))
