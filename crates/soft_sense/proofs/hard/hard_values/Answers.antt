use Rattle.std.proofs.Common.{[], ◌∷◌, ap, get_or, arith}
use Rattle.ssd_geo.specs.Bits.{bit_of}
use Rattle.ssd_geo.specs.Senses.{hard_value}
use Rattle.soft_sense.proofs.ValueLemmas.{bit_of_byte, eight_more, hard_value_fits}
use Rattle.soft_sense.proofs.hard.hard_values.Goals as goal

pub loop-j-preserved : goal.loop-j-preserved
loop-j-preserved c =
    let byte = get_or c.args.bits.now c.loop-j.j 0 in
    eight_more (λ i. hard_value (bit_of c.args.bits.now i)) (λ i. hard_value (bit_of (byte ∷ []) i)) c.loop-j.j c.loop-j.out _
    (omega arith) c.eight_hard.ensures (λ i h. ap hard_value (bit_of_byte c.args.bits.now c.loop-j.j i h)) (λ i. hard_value_fits _) c.loop-j.invariant
