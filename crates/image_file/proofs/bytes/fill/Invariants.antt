use Rattle.std.proofs.Common.{length, ◌-◌, ◌≡◌, ◌≤◌, take}
use Rattle.std.specs.Io.KnownBytes.{Consumes}
use Rattle.image_file.proofs.bytes.fill.Given as goal

abbrev pub invariant-loop-at : goal.invariant-loop-at
invariant-loop-at g l = record {
  within : l.at ≤ length l.into;
  same_length : length l.into ≡ length l.initial.into;
  read : Consumes (g.S.Source.left l.initial.input) (g.S.Source.left l.input) (take l.at l.into);
  stays : g.S.Source.faults l.input ≡ g.S.Source.faults l.initial.input;
}

abbrev pub decreases-loop-at : goal.decreases-loop-at
decreases-loop-at g l = length l.initial.into - l.at
