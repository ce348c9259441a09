-- The turned block is the run from the shift on, and then the run before it.
use Rattle.std.proofs.Common.{arith}
use Rattle.ssd_bits.specs.BitPlace.{bit_number}
use Rattle.ssd_bits.proofs.Words.{AddsRotated-runs}
use Rattle.ssd_bits.proofs.rotate.rotate_xor_into.Goals as goal

pub returns : goal.returns
returns c =
    AddsRotated-runs c.args.dst.now c.xor_run.new.dst c.xor_run-2.new.dst c.args.src.now c.args.dst_at c.args.src_at c.args.z c.args.shift
    (bit_number c.after.result) (bit_number c.after-2.result) (bit_number c.after-3.result) (bit_number c.after-4.result) c.requires.turned
    c.xor_run.ensures c.xor_run-2.ensures (omega arith) (omega arith) (omega arith) (omega arith)
