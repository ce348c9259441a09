use Rattle.std.proofs.Common.{[], ◌∷◌, ap, get_or, map, ◌+◌, ◌*◌, arith}
use Rattle.ssd_geo.specs.Senses.{five_senses, soft_value, zeros_at}
use Rattle.soft_sense.proofs.ValueLemmas.{eight_more, soft_value_fits, zeros_of_senses}
use Rattle.soft_sense.proofs.soft.soft_values.Goals as goal

pub loop-j-preserved : goal.loop-j-preserved
loop-j-preserved c =
    let n = c.args.bytes in
    let j = c.loop-j.j in
    let five = c.args.five.now in
    let at = get_or five j 0 ∷ get_or five (n + j) 0 ∷ get_or five (2 * n + j) 0 ∷ get_or five (3 * n + j) 0
    ∷ get_or five (4 * n + j) 0 ∷ [] in
    eight_more (λ i. soft_value (zeros_at (five_senses n five) i)) (λ i. soft_value (zeros_at (map (λ byte. byte ∷ []) at) i))
    j c.loop-j.out _ (omega arith) c.eight_soft.ensures
    (λ i h. ap soft_value (zeros_of_senses n five j i (omega arith) h)) (λ i. soft_value_fits _) c.loop-j.invariant
