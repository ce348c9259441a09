use Rattle.std.proofs.Common.{ℕ, ◌*◌, ◌<◌, get_or}
use Rattle.ssd_bits.specs.Runs.{AddsRun}
use Rattle.ssd_bits.proofs.xor.xor_into.Given as goal

-- the words so far are added to what were bytes
abbrev pub invariant-loop-w : goal.invariant-loop-w
invariant-loop-w l = record {
  bytes : (i : ℕ) → get_or l.initial.dst i 0 < 256;
  added : AddsRun l.initial.dst l.dst 0 l.src 0 (64 * l.w);
}
