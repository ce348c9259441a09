use Rattle.std.proofs.Common.{◌≡◌, ℕ, ◌+◌, ◌*◌, cond, List, [], ◌∷◌, length, get_or, ℤ, pos, arith}
use Rattle.ssd_geo.specs.Bits.{number_of}
use Rattle.ssd_geo.specs.Decoding.{decided}
use Rattle.ssd_geo.specs.RowRule.{is_negative}
use Rattle.code_tests.proofs.ladders.any_word.packed.Goals as goal

abbrev bit_in : List ℤ → ℕ → ℕ
bit_in xs i = cond (is_negative (get_or xs i (pos 0))) 1 0

-- the byte of eight values, bit by bit
eight_bits : (xs : List ℤ) → length xs ≡ 8
    → bit_in xs 0 + 2 * bit_in xs 1 + 4 * bit_in xs 2 + 8 * bit_in xs 3 + 16
    * (bit_in xs 4 + 2 * bit_in xs 5 + 4 * bit_in xs 6 + 8 * bit_in xs 7)
    ≡ number_of (decided xs)
eight_bits (a ∷ b ∷ c ∷ d ∷ e ∷ f ∷ g ∷ h ∷ []) l = omega arith
eight_bits xs l = absurd (omega arith)

pub returns : goal.returns
returns c = omega (arith, eight_bits c.args.values.now c.requires)
