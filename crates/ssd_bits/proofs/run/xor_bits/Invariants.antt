use Rattle.ssd_bits.specs.BitPlace.{bit_number}
use Rattle.ssd_bits.specs.Runs.{AddsRun}
use Rattle.ssd_bits.proofs.run.xor_bits.Given as goal

-- the bits so far are added
abbrev pub invariant-loop-r : goal.invariant-loop-r
invariant-loop-r l = AddsRun l.initial.dst l.dst (bit_number l.to) l.src (bit_number l.from) l.r
