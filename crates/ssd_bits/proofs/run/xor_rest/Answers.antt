-- The second part follows right after the first one.
use Rattle.std.proofs.Common.{◌-◌, arith}
use Rattle.ssd_bits.specs.BitPlace.{bit_number}
use Rattle.ssd_bits.proofs.Words.{AddsRun-chain}
use Rattle.ssd_bits.proofs.run.xor_rest.Goals as goal

pub returns-else-n-le-STEP : goal.returns-else-n-le-STEP
returns-else-n-le-STEP c =
    AddsRun-chain c.args.dst.now c.xor_end-else-n-le-STEP.new.dst c.xor_end-else-n-le-STEP-2.new.dst c.args.src.now (bit_number c.args.to) (bit_number c.args.from) 56
    (bit_number c.next.result) (bit_number c.next-else-n-le-STEP.result) (c.args.n - 56) c.args.n c.xor_end-else-n-le-STEP.ensures c.xor_end-else-n-le-STEP-2.ensures
    (omega arith) (omega arith) (omega arith)
