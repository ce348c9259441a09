use Rattle.std.proofs.Common.{◌≤◌, suc, refl, arith}
use Rattle.std.specs.Prelude.{length}
use Rattle.std.proofs.Math.Nat.{mul-le-mul_right}
use Rattle.retry_ladder.proofs.PutSenses.{one_more_sense}
use Rattle.retry_ladder.proofs.found.put_sense.Goals as goal

pub returns-clause-senses : goal.returns-clause-senses
returns-clause-senses c =
    let below : suc c.args.k ≤ 5 = omega arith in
    one_more_sense _ c.args.k _ c.args.five.now _ c.args.bits.now c.copy_from_slice.ensures.after
    refl
    (omega (arith, mul-le-mul_right (length c.args.bits.now) below))
