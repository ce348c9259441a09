use Rattle.std.proofs.Common.{◌≡◌, ◌+◌, ◌-◌, ◌<◌, ◌≤◌}
use Rattle.ssd_bits.specs.BitPlace.{bit_number}
use Rattle.ssd_bits.specs.Runs.{AddsRun}
use Rattle.ssd_bits.proofs.run.xor_run.Given as goal

-- the bits but those left are added, and the places stand where the bits left begin
abbrev pub invariant-loop-left : goal.invariant-loop-left
invariant-loop-left l = record {
  within : l.left ≤ l.n;
  to_low : l.to.bit < 8;
  from_low : l.from.bit < 8;
  to_place : bit_number l.to + l.left ≡ bit_number l.fn.to + l.n;
  from_place : bit_number l.from + l.left ≡ bit_number l.fn.from + l.n;
  added : AddsRun l.initial.dst l.dst (bit_number l.fn.to) l.src (bit_number l.fn.from) (l.n - l.left);
}

abbrev pub decreases-loop-left : goal.decreases-loop-left
decreases-loop-left l = l.left
