-- Which bits does a list of bytes hold, and what are the sum, the rotation and the weight of bits? Bit i of a byte
-- list is bit i mod 8 of byte i div 8, lowest bit first. A list of n bits has the least number of bytes
-- that hold it, and its unused bits are 0.
use Rattle.std.specs.Prelude.{◌≡◌, ℕ, ◌+◌, ◌*◌, ◌/◌, ◌%◌, ◌==◌, Bool, true, false, cond, not, List, [], ◌∷◌, map, length, take, drop, slice_index, slice_index_or, count_by, bit_xor, replicate}
use Rattle.std.specs.List.{range_with_len}
use Rattle.std.specs.Int.{bit_at}

-- whether bit i of a byte list is 1
abbrev pub bit_of : List ℕ → ℕ → Bool
bit_of bytes i = bit_at (slice_index bytes (i / 8)) (i % 8) == 1

-- the first n bits of a byte list
abbrev pub bits_of : ℕ → List ℕ → List Bool
bits_of n bytes = map (bit_of bytes) (range_with_len 0 n)

-- the number with these bits, lowest first
abbrev pub number_of : List Bool → ℕ
number_of [] = 0
number_of (bit ∷ bits) = cond bit 1 0 + 2 * number_of bits

-- byte j of a list of bits: eight bits, fewer at the list's end
abbrev pub byte_of : List Bool → ℕ → ℕ
byte_of bits j = number_of (take 8 (drop (8 * j) bits))

-- the least number of bytes that hold a list of bits, with 0 in the unused bits
abbrev pub bytes_of : List Bool → List ℕ
bytes_of bits = map (byte_of bits) (range_with_len 0 ((length bits + 7) / 8))

-- a byte list is that of n bits: it has the least number of bytes, and its unused bits are 0
abbrev pub IsOfBits : ℕ → List ℕ → Type 0
IsOfBits n bytes = bytes_of (bits_of n bytes) ≡ bytes

-- n bits that are all 0
abbrev pub zero_bits : ℕ → List Bool
zero_bits n = replicate n false

-- the sum of two bits
abbrev pub bit_sum : Bool → Bool → Bool
bit_sum true other = not other
bit_sum false other = other

-- the sum, bit by bit, of two lists of bits of one length
abbrev pub bits_sum : List Bool → List Bool → List Bool
bits_sum [] others = []
bits_sum (bit ∷ bits) [] = []
bits_sum (bit ∷ bits) (other ∷ others) = bit_sum bit other ∷ bits_sum bits others

-- the sum of all lists of bits in a list, each of n bits
abbrev pub total_bits : ℕ → List (List Bool) → List Bool
total_bits n [] = zero_bits n
total_bits n (bits ∷ rest) = bits_sum bits (total_bits n rest)

-- the sum, bit by bit, of two byte lists of one length
abbrev pub bytes_sum : List ℕ → List ℕ → List ℕ
bytes_sum [] others = []
bytes_sum (byte ∷ bytes) [] = []
bytes_sum (byte ∷ bytes) (other ∷ others) = bit_xor byte other ∷ bytes_sum bytes others

-- a block of bits turned by a shift: bit r of the result is bit (r + shift) mod z of the block's z bits
abbrev pub rotated : ℕ → List Bool → List Bool
rotated shift bits = map (λ r. slice_index_or bits ((r + shift) % length bits) false) (range_with_len 0 (length bits))

-- how many of the bits are 1
abbrev pub weight_of : List Bool → ℕ
weight_of bits = count_by (λ bit. bit) bits
