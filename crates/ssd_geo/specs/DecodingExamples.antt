-- Do the row rule and the decoder compute what a calculation apart gives? The code is that of
-- `small_matrix`.
use Rattle.std.specs.Prelude.{◌≡◌, refl, Bool, true, false, List, [], ◌∷◌, map, ℤ, pos, negsuc, Some, None}
use Rattle.ssd_geo.specs.Bits.{bits_of}
use Rattle.ssd_geo.specs.CodeExamples.{small_matrix}
use Rattle.ssd_geo.specs.RowRule.{row_rule}
use Rattle.ssd_geo.specs.Decoding.{after_iterations, decode, row_worked}
use Rattle.ssd_geo.specs.Senses.{hard_value}

pub row_rule_basic : row_rule (pos 10 ∷ negsuc 3 ∷ pos 7 ∷ []) ≡ negsuc 2 ∷ pos 5 ∷ negsuc 2 ∷ []
unfolding row_rule
row_rule_basic = refl

pub row_rule_zero : row_rule (pos 0 ∷ negsuc 4 ∷ []) ≡ negsuc 2 ∷ pos 0 ∷ []
unfolding row_rule
row_rule_zero = refl

pub row_rule_greatest : row_rule (pos 127 ∷ pos 127 ∷ []) ≡ pos 95 ∷ pos 95 ∷ []
unfolding row_rule
row_rule_greatest = refl

-- the values of the word 00 83 0b, which is the codeword 01 83 0b with bit 0 turned
abbrev one_flip : List ℤ
one_flip = map hard_value (bits_of 20 (0 ∷ 131 ∷ 11 ∷ []))

-- one iteration corrects the bit
pub one_flip_after_one : (after_iterations small_matrix one_flip 1).0 ≡ negsuc 19 ∷ pos 84 ∷ pos 84 ∷ pos 80 ∷ pos 80 ∷ pos 50 ∷ pos 80 ∷ pos 80 ∷ negsuc 89 ∷ negsuc 59 ∷ pos 74 ∷ pos 108 ∷ pos 32 ∷ pos 62 ∷ pos 80 ∷ negsuc 79 ∷ negsuc 61 ∷ negsuc 31 ∷ pos 84 ∷ negsuc 83 ∷ []
unfolding row_worked row_rule
one_flip_after_one = refl

pub one_flip_decoded : decode small_matrix 8 one_flip ≡ Some (1, 1 ∷ 131 ∷ 11 ∷ [])
unfolding row_worked row_rule
one_flip_decoded = refl

-- without an iteration it isn't found
pub one_flip_without_iteration : decode small_matrix 0 one_flip ≡ None
one_flip_without_iteration = refl

pub codeword_decoded : decode small_matrix 8 (map hard_value (bits_of 20 (1 ∷ 131 ∷ 11 ∷ []))) ≡ Some (0, 1 ∷ 131 ∷ 11 ∷ [])
codeword_decoded = refl
