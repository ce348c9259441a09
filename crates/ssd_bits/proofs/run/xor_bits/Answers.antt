-- One more bit of the run is added.
use Rattle.std.proofs.Common.{◌+◌, ◌/◌, ◌%◌, ◌^◌, get_or, bit_and, arith}
use Rattle.ssd_bits.specs.BitPlace.{bit_number}
use Rattle.ssd_geo.specs.Bits.{bit_of}
use Rattle.ssd_bits.proofs.Words.{AddsBits-more, is_one-source, lowest_bit}
use Rattle.ssd_bits.proofs.run.xor_bits.Goals as goal

pub loop-r-preserved : goal.loop-r-preserved
loop-r-preserved c =
    AddsBits-more c.args.dst.now c.loop-r.dst (bit_number c.args.to) c.loop-r.r (c.args.to.byte + (c.args.to.bit + c.loop-r.r) / 8) ((c.args.to.bit + c.loop-r.r) % 8)
    (bit_and (get_or c.args.src.now (c.args.from.byte + (c.args.from.bit + c.loop-r.r) / 8) 0 / 2 ^ ((c.args.from.bit + c.loop-r.r) % 8)) 1)
    (λ r. bit_of c.args.src.now (bit_number c.args.from + r)) c.loop-r.invariant (omega arith) (omega arith) (omega arith)
    (lowest_bit (get_or c.args.src.now (c.args.from.byte + (c.args.from.bit + c.loop-r.r) / 8) 0 / 2 ^ ((c.args.from.bit + c.loop-r.r) % 8)))
    (is_one-source c.args.src.now (c.args.from.byte + (c.args.from.bit + c.loop-r.r) / 8) ((c.args.from.bit + c.loop-r.r) % 8) (bit_number c.args.from + c.loop-r.r) (omega arith) (omega arith))
