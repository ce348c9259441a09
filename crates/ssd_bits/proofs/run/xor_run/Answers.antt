-- The bits of a step, and in the end the bits left, follow right after those that are added.
use Rattle.std.proofs.Common.{◌-◌, arith}
use Rattle.ssd_bits.specs.BitPlace.{bit_number}
use Rattle.ssd_bits.proofs.Words.{AddsRun-chain}
use Rattle.ssd_bits.proofs.run.xor_run.Goals as goal

pub loop-left-preserved : goal.loop-left-preserved
loop-left-preserved c = record {
  within = omega arith;
  to_low = omega arith;
  from_low = omega arith;
  to_place = omega arith;
  from_place = omega arith;
  added =
      AddsRun-chain c.args.dst.now c.loop-left.dst c.xor_step.new.dst c.args.src.now (bit_number c.args.to) (bit_number c.args.from) (c.args.n - c.loop-left.left)
      (bit_number c.loop-left.to) (bit_number c.loop-left.from) 56 (c.args.n - (c.loop-left.left - 56)) c.loop-left.invariant.added c.xor_step.ensures
      (omega arith) (omega arith) (omega arith);
}

pub returns : goal.returns
returns c =
    AddsRun-chain c.args.dst.now c.loop-left.dst c.xor_rest.new.dst c.args.src.now (bit_number c.args.to) (bit_number c.args.from) (c.args.n - c.loop-left.left)
    (bit_number c.loop-left.to) (bit_number c.loop-left.from) c.loop-left.left c.args.n c.loop-left.invariant.added c.xor_rest.ensures
    (omega arith) (omega arith) (omega arith)
