use Rattle.std.proofs.Common.{◌≡◌, ℕ, ◌+◌, ◌<◌, cond, eqb, length, get_or, ℤ, pos, sym, ap, ◌∙◌, w8, arith}
use Rattle.std.proofs.lemmas.Int.{to_z-of_z}
use Rattle.std.specs.Int.{w16}
use Rattle.std.specs.Int.RustNames.{FitsSigned}
use Rattle.std.proofs.lemmas.Simd.{bitmask_splat, get_or-chunk, length-chunk}
use Rattle.std.specs.Simd.Lanes.{chunk}
use Rattle.ssd_geo.specs.Cells.{sensed_bit}
use Rattle.cell_law.proofs.sense.sensed_word.Goals as goal
use Rattle.shared_lemmas.proofs.WordBits.{mask_of_tests}

pub returns : goal.returns
returns g c =
    let levels = c.args.levels.now in
    let at = c.args.at in
    let tests = c.loop-i.tests in
    let long : length (chunk at g.row.L levels) ≡ g.row.L = length-chunk at g.row.L levels c.requires.room in
    let fits : FitsSigned w16 c.args.level = c.ranges.level in
    let each = simp to_z-of_z at c.loop-i.invariant.each in
    bitmask_splat w8 eqb tests g.row.L 255 c.loop-i.invariant.long c.requires.lanes
    ∙ mask_of_tests (sensed_bit c.args.level) tests (chunk at g.row.L levels) (omega (arith, c.loop-i.invariant.long))
    (λ k h. each k (omega arith) ∙ ap (λ (cell : ℤ). cond (sensed_bit c.args.level cell) 255 0) (sym (get_or-chunk at g.row.L levels k (pos 0) (omega arith))))
