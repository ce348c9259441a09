-- What does the decoder take from senses of a page? It takes a number for each bit: positive where the bit seems to
-- be 0, negative where it seems to be 1, and the greater the surer (the usual sign of log-likelihood values). One
-- sense gives two values, five senses at neighbouring levels give six. The values are this project's own.
use Rattle.std.specs.Prelude.{ℕ, ◌≡◌, ◌+◌, ◌*◌, ◌<◌, not, Bool, if◌then◌else◌, List, [], ◌∷◌, ◌++◌, All, map, count_by, length, slice_range, slice_index_or, ℤ, pos, negsuc}
use Rattle.std.specs.List.{range_with_len}
use Rattle.ssd_geo.specs.Bits.{bit_of}
use Rattle.ssd_geo.specs.RowRule.{IsWithin}

-- the value of a bit of one sense: 32 for 0, -32 for 1
abbrev pub hard_value : Bool → ℤ
hard_value bit = if bit then negsuc 31 else pos 32

-- the values of the bits of one sense
abbrev pub hard_values : List ℕ → List ℤ
hard_values sense = map (λ i. hard_value (bit_of sense i)) (range_with_len 0 (8 * length sense))

-- the value of a cell that so many of five senses give as 0
abbrev pub soft_value : ℕ → ℤ
soft_value zeros =
    slice_index_or (negsuc 95 ∷ negsuc 47 ∷ negsuc 15 ∷ pos 16 ∷ pos 48 ∷ pos 96 ∷ []) zeros (pos 0)

-- how many of the senses give 0 for bit i
abbrev pub zeros_at : List (List ℕ) → ℕ → ℕ
zeros_at senses i = count_by (λ sense. not (bit_of sense i)) senses

-- the values of the bits of five senses, of n bytes each
abbrev pub soft_values : ℕ → List (List ℕ) → List ℤ
soft_values n senses = map (λ i. soft_value (zeros_at senses i)) (range_with_len 0 (8 * n))

-- sense k of a list that has senses of n bytes each, one after the other
abbrev pub sense_in : ℕ → List ℕ → ℕ → List ℕ
sense_in n bytes k = slice_range bytes (k * n) (k * n + n)

-- the five senses in such a list
abbrev pub five_senses : ℕ → List ℕ → List (List ℕ)
five_senses n bytes = map (sense_in n bytes) (range_with_len 0 5)

-- Laws, each the contract of a function without a body.

-- the values are those that the decoder takes
pub record TakesValues (sense : List ℕ) (n : ℕ) (senses : List (List ℕ)) : Type 0 where
  pub hard : All (IsWithin 127) (hard_values sense)
  pub soft : All (IsWithin 127) (soft_values n senses)
  pub hard_count : length (hard_values sense) ≡ 8 * length sense
  pub soft_count : length (soft_values n senses) ≡ 8 * n

-- whatever the senses
abbrev pub ValuesAreTaken : Type 0
ValuesAreTaken = (sense : List ℕ) (n : ℕ) (senses : List (List ℕ)) → TakesValues sense n senses

-- bit i of sense k of a list is bit 8 * k * n + i of the list
abbrev pub SensesStandInOrder : Type 0
SensesStandInOrder =
    (n : ℕ) (bytes : List ℕ) (k i : ℕ) → i < 8 * n → bit_of (sense_in n bytes k) i ≡ bit_of bytes (8 * (k * n) + i)

-- five senses one after the other are given back
abbrev pub FiveSensesAreBack : Type 0
FiveSensesAreBack =
    (n : ℕ) (a b c d e : List ℕ) → All (λ sense. length sense ≡ n) (a ∷ b ∷ c ∷ d ∷ e ∷ []) →
    five_senses n (a ++ b ++ c ++ d ++ e) ≡ a ∷ b ∷ c ∷ d ∷ e ∷ []
