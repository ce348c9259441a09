use Rattle.std.proofs.Common.{◌≡◌, ◌*◌}
use Rattle.ssd_bits.proofs.Counting.{count_to}
use Rattle.ssd_geo.specs.Bits.{bit_of}
use Rattle.ssd_bits.proofs.ones.weight.Given as goal

-- the ones of the words, and of the bytes, so far
abbrev pub invariant-loop-w : goal.invariant-loop-w
invariant-loop-w l = l.ones ≡ count_to (bit_of l.bytes) (64 * l.w)

abbrev pub invariant-loop-i : goal.invariant-loop-i
invariant-loop-i l = l.ones ≡ count_to (bit_of l.bytes) (8 * l.i)
