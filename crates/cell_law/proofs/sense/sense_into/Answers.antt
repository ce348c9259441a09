use Rattle.std.proofs.Common.{◌≡◌, ◌+◌, ◌*◌, ◌<◌, ◌≤◌, ◌∙◌, length, to_z, of_z, arith}
use Rattle.std.proofs.lemmas.Int.{to_z-of_z}
use Rattle.std.specs.Int.{w16}
use Rattle.std.specs.Int.RustNames.{FitsSigned}
use Rattle.ssd_geo.specs.Cells.{sensed_bit}
use Rattle.cell_law.proofs.SenseLemmas.{all_bytes, byte_fits, one_more_byte}
use Rattle.cell_law.proofs.sense.sense_into.Goals as goal
use Rattle.shared_lemmas.proofs.WordBits.{one_more_word}

pub loop-w-preserved : goal.loop-w-preserved
loop-w-preserved c =
    one_more_word _ _ c.loop-w.out _ c.loop-w.w _ (omega arith) c.sensed_word-bits.ensures (c.copy_from_slice.ensures.after ∙ c.to_le_bytes.ensures) c.loop-w.invariant

pub overflow_cast-out : goal.overflow_cast-out
overflow_cast-out c = record { fits = omega (arith, c.sensed_word.ensures, byte_fits (sensed_bit (to_z w16 (of_z w16 c.args.level))) c.args.levels.now c.loop-j.j) }

pub loop-j-preserved : goal.loop-j-preserved
loop-j-preserved c = one_more_byte _ _ _ _ _ (omega arith) c.sensed_word.ensures c.loop-j.invariant

pub returns : goal.returns
returns c =
    let fits : FitsSigned w16 c.args.level = c.ranges.level in
    let each = simp to_z-of_z at c.loop-j.invariant in
    all_bytes _ _ _ (omega arith) (λ k h. each k (omega arith))
