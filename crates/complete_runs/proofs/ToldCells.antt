-- Cells give back the word that was programmed at a read level that is above each level of an erased cell and above none of a
-- programmed one, whatever their noise.
use Rattle.std.proofs.Common.{ℕ, ◌≡◌, ◌*◌, ◌%◌, ◌+◌, ◌<◌, Bool, true, false, List, [], ◌∷◌, map, length, ℤ, pos, ◌+ℤ◌, ◌-ℤ◌, ◌<ℤ◌, ◌≤ℤ◌, refl, ◌∙◌, ap, mod-lt, arith}
use Rattle.std.proofs.lemmas.Int.{ints}
use Rattle.std.specs.List.{range_with_len}
use Rattle.ssd_geo.specs.Bits.{bit_of, bits_of, bytes_of}
use Rattle.ssd_geo.specs.Cells.{aim_of_bit, fresh_level, fresh_levels, sensed, sensed_bit}
use Rattle.ssd_geo.specs.Noise.{bits_of_cell, noise_of_bits, start_of_program}
use Rattle.ssd_geo.specs.declared.cell_law.CellLaw.{CellLaw}

-- such a level tells a cell's bit
sensed_bit-told : (law : CellLaw) (at : ℤ) (drawn : ℕ) (bit : Bool) → (law.erased +ℤ pos law.spread) <ℤ at → at ≤ℤ (law.programmed -ℤ pos law.spread) →
    sensed_bit at (aim_of_bit law bit +ℤ noise_of_bits law.spread drawn) ≡ bit
sensed_bit-told law at drawn true low high =
    let noise : drawn % (2 * law.spread + 1) < 2 * law.spread + 1 = mod-lt drawn (omega arith) in
    let below : (law.erased +ℤ noise_of_bits law.spread drawn) <ℤ at = omega (arith, ints, noise, low) in
    grind (arith, ints)
sensed_bit-told law at drawn false low high =
    let noise : drawn % (2 * law.spread + 1) < 2 * law.spread + 1 = mod-lt drawn (omega arith) in
    let above : at ≤ℤ (law.programmed +ℤ noise_of_bits law.spread drawn) = omega (arith, ints, noise, high) in
    grind (arith, ints)

pub map_through : {A B C : Type 0} (p : B → C) (f : A → B) (g : A → C) → ((x : A) → p (f x) ≡ g x) → (xs : List A) → map p (map f xs) ≡ map g xs
map_through p f g same [] = refl
map_through p f g same (x ∷ xs) =
    ap (λ y. y ∷ map p (map f xs)) (same x) ∙ ap (λ ys. g x ∷ ys) (map_through p f g same xs)

-- so a sense at such a level gives the bits of the word that was programmed
pub sensed-told : (law : CellLaw) (place erases : ℕ) (word : List ℕ) (at : ℤ) → (law.erased +ℤ pos law.spread) <ℤ at →
    at ≤ℤ (law.programmed -ℤ pos law.spread) → sensed at (fresh_levels law place erases word) ≡ bytes_of (bits_of (8 * length word) word)
sensed-told law place erases word at low high =
    let start = start_of_program law.seed place erases in
    ap bytes_of
    (map_through (sensed_bit at) (fresh_level law start word) (bit_of word)
    (λ cell. sensed_bit-told law at (bits_of_cell start cell) (bit_of word cell) low high) (range_with_len 0 (8 * length word)))
