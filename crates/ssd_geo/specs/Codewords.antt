-- Which words are codewords, and which one has a given part? A word of nb * z bits is a codeword where each of the
-- mb * z check rows has an even sum. The parity of a part is solved for block by block: with L i
-- the sum of base row i over the message blocks, the first parity block is the sum of all L i, the
-- second is L 0 plus the first one turned by its shift, and each further one is the row's L plus the parity block before
-- it, with the first parity block added in the one middle row that has it.
use Rattle.std.specs.Prelude.{◌≡◌, ℕ, zero, suc, ◌*◌, ◌<◌, ◌==◌, nat_lt, Bool, false, if◌then◌else◌, List, [], ◌∷◌, ◌++◌, map, take, drop, slice_index_or, ℤ, pos, negsuc, sum_by, count_by, filter, flat_map}
use Rattle.std.specs.List.{range_with_len}
use Rattle.std.specs.Ordering.{int_eq}
use Rattle.ssd_geo.specs.Layer.{variables_of}
use Rattle.ssd_geo.specs.Bits.{IsOfBits, bits_of, bytes_of, bit_sum, bits_sum, total_bits, rotated}
use Rattle.ssd_geo.specs.BaseMatrix.{BaseMatrix, message_columns, parity_entry, layer_of}

-- the number of bits of a codeword, and of its part: the payload of the code
abbrev pub word_bits : BaseMatrix → ℕ
word_bits m = m.nb * m.z

abbrev pub payload_bits : BaseMatrix → ℕ
payload_bits m = message_columns m * m.z

-- whether the sum of a word's bits at some variables is odd
abbrev pub is_odd_sum : List Bool → List ℕ → Bool
is_odd_sum bits [] = false
is_odd_sum bits (variable ∷ variables) = bit_sum (slice_index_or bits variable false) (is_odd_sum bits variables)

-- whether row r of base row i has an odd sum
abbrev pub is_odd_row : BaseMatrix → List Bool → ℕ → ℕ → Bool
is_odd_row m bits i r = is_odd_sum bits (variables_of (layer_of m i) m.z r)

-- how many check rows have an odd sum
abbrev pub odd_rows : BaseMatrix → List Bool → ℕ
odd_rows m bits = sum_by (λ i. count_by (is_odd_row m bits i) (range_with_len 0 m.z)) (range_with_len 0 m.mb)

-- whether no check row of a word's bits has an odd sum
abbrev pub is_codeword : BaseMatrix → List Bool → Bool
is_codeword m bits = odd_rows m bits == 0

-- how many check rows of a word, a list of bytes, have an odd sum
abbrev pub failed_checks : BaseMatrix → List ℕ → ℕ
failed_checks m word = odd_rows m (bits_of (word_bits m) word)

-- a word, a list of bytes, is a codeword where every check row has an even sum
abbrev pub IsCodeword : BaseMatrix → List ℕ → Type 0
IsCodeword m word = (i r : ℕ) → i < m.mb → r < m.z → is_odd_row m (bits_of (word_bits m) word) i r ≡ false

-- block j of a list of bits
abbrev pub bits_of_block : ℕ → List Bool → ℕ → List Bool
bits_of_block z bits j = take z (drop (j * z) bits)

-- the blocks of base row i in the message's columns
abbrev pub message_layer : BaseMatrix → ℕ → List (ℕ × ℕ)
message_layer m i = filter (λ block. nat_lt (block.0) (message_columns m)) (layer_of m i)

-- the sum of base row i over the message blocks, L i
abbrev pub message_sum : BaseMatrix → List Bool → ℕ → List Bool
message_sum m bits i = total_bits m.z (map (λ block. rotated (block.1) (bits_of_block m.z bits (block.0))) (message_layer m i))

-- the first parity block: the sum of all base rows over the message blocks
abbrev pub first_parity : BaseMatrix → List Bool → List Bool
first_parity m bits = total_bits m.z (map (message_sum m bits) (range_with_len 0 m.mb))

-- the shift that an entry names
abbrev pub shift_of : ℤ → ℕ
shift_of (pos shift) = shift
shift_of (negsuc n) = 0

-- parity block t of a message's bits
abbrev pub parity_block : BaseMatrix → List Bool → ℕ → List Bool
parity_block m bits zero = first_parity m bits
parity_block m bits (suc zero) = bits_sum (message_sum m bits 0) (rotated (shift_of (parity_entry m 0)) (first_parity m bits))
parity_block m bits (suc (suc t)) =
    let before = bits_sum (message_sum m bits (suc t)) (parity_block m bits (suc t)) in
    if int_eq (parity_entry m (suc t)) (pos 0) then bits_sum before (first_parity m bits) else before

-- the bits of the word of a message: the message and then the parity blocks
abbrev pub coded_bits : BaseMatrix → List Bool → List Bool
coded_bits m bits = bits ++ flat_map (parity_block m bits) (range_with_len 0 m.mb)

-- the codeword of a part, both lists of bytes
abbrev pub code_of : BaseMatrix → List ℕ → List ℕ
code_of m part = bytes_of (coded_bits m (bits_of (payload_bits m) part))

-- a word begins with a payload: its first bits are the payload's bits
abbrev pub BeginsWith : BaseMatrix → List ℕ → List ℕ → Type 0
BeginsWith m payload word = bits_of (payload_bits m) word ≡ bits_of (payload_bits m) payload

-- the first law of each accepted matrix: the word of a payload is a word, and a codeword
abbrev pub WordIsCodeword : BaseMatrix → Type 0
WordIsCodeword m = (payload : List ℕ) → IsOfBits (word_bits m) (code_of m payload) × IsCodeword m (code_of m payload)

-- the second: it begins with the payload
abbrev pub WordBeginsWithPayload : BaseMatrix → Type 0
WordBeginsWithPayload m = (payload : List ℕ) → BeginsWith m payload (code_of m payload)

-- the third: no other codeword does
abbrev pub WordIsOnlyCodeword : BaseMatrix → Type 0
WordIsOnlyCodeword m =
    (payload word : List ℕ) → IsOfBits (word_bits m) word → IsCodeword m word → BeginsWith m payload word → word ≡ code_of m payload

-- a word is the one codeword that begins with a payload
pub record IsOnlyCodewordOf (m : BaseMatrix) (payload word : List ℕ) : Type 0 where
  pub of_bits : IsOfBits (word_bits m) word
  pub codeword : IsCodeword m word
  pub begins : BeginsWith m payload word
  pub only : (other : List ℕ) → IsOfBits (word_bits m) other → IsCodeword m other → BeginsWith m payload other → other ≡ word
