use Rattle.std.proofs.Common.{◌≤◌, length, ap, arith}
use Rattle.std.proofs.lemmas.Nat.{mul-lt}
use Rattle.ssd_geo.proofs.AcceptedLayers.{accepted_layer}
use Rattle.ldpc_decode.proofs.iteration.edges_in.Goals as goal

pub overflow_mul-result : goal.overflow_mul-result
overflow_mul-result c =
    let short = (accepted_layer c.args.code.now c.requires.accepted c.args.i c.requires.row).at_most in
    let same = ap length c.layer.ensures in
    omega (arith, mul-lt (length c.layer.result.now) c.from.result 129 65536 (omega arith) (omega arith))

pub returns-clause-bound : goal.returns-clause-bound
returns-clause-bound c =
    let accepted = c.requires.accepted in
    let short = (accepted_layer c.args.code.now accepted c.args.i c.requires.row).at_most in
    let same = ap length c.layer.ensures in
    let small : c.from.result ≤ 1024 = omega (arith, accepted.within.z_high) in
    omega (arith, mul-lt (length c.layer.result.now) c.from.result 129 1025 (omega arith) (omega arith))
