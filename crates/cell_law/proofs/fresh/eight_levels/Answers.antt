use Rattle.std.proofs.Common.{◌≡◌, ℕ, ◌+◌, ◌*◌, ◌%◌, ◌/◌, ◌^◌, ◌≤◌, ◌++◌, Bool, List, true, false, cond, eqb, map, refl, sym, ap, ◌∙◌, ℤ, pos, ◌+ℤ◌, ◌-ℤ◌, to_z, of_z, w16, SFits, arith, rules}
use Rattle.std.proofs.lemmas.Int.{to_z-of_z, to_z_pos, ints}
use Rattle.std.proofs.lemmas.Nat.{shr-shr}
use Rattle.std.specs.Int.{bit_at}
use Rattle.ssd_geo.specs.Cells.{aim_of_bit}
use Rattle.ssd_geo.specs.Noise.{noise_of_bits}
use Rattle.ssd_geo.specs.declared.cell_law.CellLaw.{CellLaw}
use Rattle.std.specs.List.{range_with_len}
use Rattle.std.specs.Simd.Lanes.{zip2}
use Rattle.cell_law.specs.Quad.{parts_of}
use Rattle.cell_law.proofs.FreshLemmas.{level_lane}
use Rattle.cell_law.proofs.fresh.eight_levels.Goals as goal
use Rattle.shared_lemmas.proofs.Lists.{eight_equal}

-- the lowest level of a cell, by its bit
lowest_is : (law : CellLaw) (bit : Bool) → cond bit (law.erased -ℤ pos law.spread) (law.programmed -ℤ pos law.spread) ≡ aim_of_bit law bit -ℤ pos law.spread
lowest_is law true = refl
lowest_is law false = refl

-- a level less the spread, as the program computes it
lowered : (level : ℤ) (spread : ℕ) → SFits w16 level → spread ≤ 4095 → SFits w16 (level -ℤ pos spread)
    → to_z w16 (of_z w16 (to_z w16 (of_z w16 level) -ℤ to_z w16 spread)) ≡ level -ℤ pos spread
lowered level spread f small g =
    ap (λ (z : ℤ). to_z w16 (of_z w16 (z -ℤ to_z w16 spread))) (to_z-of_z w16 level f)
    ∙ ap (λ (z : ℤ). to_z w16 (of_z w16 (level -ℤ z))) (to_z_pos w16 spread (omega arith))
    ∙ to_z-of_z w16 (level -ℤ pos spread) g

pub returns : goal.returns
returns c =
    let law = c.args.law.now in
    let byte = c.args.byte in
    let first = c.args.first in
    let second = c.args.second in
    let lawful = c.requires.law in
    let sums = λ (lowest : List ℤ) (noise : List ℕ). map (to_z w16) (zip2 (λ a b. (a + b) % 2 ^ 16) (map (of_z w16) lowest) (map (λ n. n) noise)) in
    let lowest = λ (k : ℕ). cond (eqb (bit_at byte k) 1) (law.erased -ℤ pos law.spread) (law.programmed -ℤ pos law.spread) in
    let noise : c.remainders-noise.result ≡ map (λ drawn. drawn % (2 * law.spread + 1)) (parts_of first ++ parts_of second) =
    c.remainders-noise.ensures ∙ ap (map (λ drawn. drawn % (2 * law.spread + 1))) c.drawn_from.ensures in
    let erased_fits : SFits w16 law.erased = omega (arith, ints, lawful.erased_low, lawful.programmed_low, lawful.programmed_high) in
    let programmed_fits : SFits w16 law.programmed = omega (arith, ints, lawful.erased_low, lawful.programmed_low, lawful.programmed_high) in
    let one_fits : SFits w16 (law.erased -ℤ pos law.spread) = omega (arith, ints, lawful.spread_high, lawful.erased_low, lawful.programmed_low, lawful.programmed_high) in
    let zero_fits : SFits w16 (law.programmed -ℤ pos law.spread) = omega (arith, ints, lawful.spread_high, lawful.erased_low, lawful.programmed_low, lawful.programmed_high) in
    let computed = λ (level : ℤ). to_z w16 (of_z w16 (to_z w16 (of_z w16 level) -ℤ to_z w16 law.spread)) in
    let levels : c.lowest_levels.result ≡ map lowest (range_with_len 0 8) =
    c.lowest_levels.ensures
    ∙ ap (λ (one : ℤ). map (λ k. cond (eqb (bit_at byte k) 1) one (computed law.programmed)) (range_with_len 0 8)) (lowered law.erased law.spread erased_fits lawful.spread_high one_fits)
    ∙ ap (λ (zero : ℤ). map (λ k. cond (eqb (bit_at byte k) 1) (law.erased -ℤ pos law.spread) zero) (range_with_len 0 8)) (lowered law.programmed law.spread programmed_fits lawful.spread_high zero_fits) in
    let lane = λ (bit : Bool) (drawn : ℕ). level_lane law bit drawn (cond bit (law.erased -ℤ pos law.spread) (law.programmed -ℤ pos law.spread)) lawful (lowest_is law bit) in
    let low = λ (k : ℕ). lane (eqb (bit_at byte k) 1) (first / 2 ^ (16 * k) % 2 ^ 16) in
    let high = λ (k : ℕ).
    lane (eqb (bit_at byte (4 + k)) 1) (second / 2 ^ (16 * k) % 2 ^ 16)
    ∙ ap (λ (n : ℕ). aim_of_bit law (eqb (n % 2) 1) +ℤ noise_of_bits law.spread (second / 2 ^ (16 * k) % 2 ^ 16)) (sym (shr-shr byte 4 k)) in
    ap (λ (xs : List ℤ). sums xs c.remainders-noise.result) levels
    ∙ ap (λ (xs : List ℕ). sums (map lowest (range_with_len 0 8)) xs) noise
    ∙ eight_equal (low 0) (low 1) (low 2) (low 3) (high 0) (high 1) (high 2) (high 3)
