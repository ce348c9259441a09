use Rattle.std.proofs.Common.{◌-◌, ◌≡◌, ◌≤◌, length, take}
use Rattle.std.specs.Io.KnownBytes.{Appends}
use Rattle.ssd_io.proofs.sink.write_all.Given as goal

abbrev pub invariant-loop-at : goal.invariant-loop-at
invariant-loop-at g l = record {
  within : l.at ≤ length l.bytes;
  appended : Appends (g.O.Sink.written l.initial.out) (g.O.Sink.written l.out) (take l.at l.bytes);
  stays : g.O.Sink.faults l.out ≡ g.O.Sink.faults l.initial.out;
  untouched : l.at ≡ 0 → l.out ≡ l.initial.out;
}

abbrev pub decreases-loop-at : goal.decreases-loop-at
decreases-loop-at g l = length l.bytes - l.at
