use Rattle.std.proofs.Common.{◌≡◌, ◌-◌, ◌≤◌, length, take}
use Rattle.trace_text.specs.BytesAhead.{HasNoFeed, KeepsAhead}
use Rattle.trace_text.specs.Windows.{held}
use Rattle.trace_text.proofs.window.Window.seek.Given as goal

abbrev pub invariant-reading : goal.invariant-reading
invariant-reading g l = record {
  looked : l.looked ≤ length (held l.self);
  few : l.looked ≤ 40001;
  none : HasNoFeed (take l.looked (held l.self));
  ahead : KeepsAhead (held l.initial.self) (held l.self) (g.S.Source.left l.initial.input) (g.S.Source.left l.input);
  stays : g.S.Source.faults l.input ≡ g.S.Source.faults l.initial.input;
}

abbrev pub decreases-reading : goal.decreases-reading
decreases-reading g l = 80000 - length (held l.self)
