use Rattle.std.proofs.Common.{◌≡◌, ◌-◌, length, drop}
use Rattle.ssd_geo.specs.Bits.{number_of}
use Rattle.ssd_geo.specs.Decoding.{decided}
use Rattle.ldpc_decode.proofs.decision.packed.Given as goal

abbrev pub invariant-loop-k : goal.invariant-loop-k
invariant-loop-k l = l.byte ≡ number_of (drop (length l.numbers - l.k) (decided l.numbers))
