use Rattle.std.proofs.Common.{◌≡◌, ◌+◌, ◌-◌, ◌^◌, ◌≤◌}
use Rattle.ssd_io.specs.Told.{IsTold}
use Rattle.trace_text.specs.BytesAhead.{lines_ahead}
use Rattle.trace_text.specs.DueLines.{due_line}
use Rattle.trace_text.specs.ReadLines.{pending}
use Rattle.trace_text.proofs.line_reader.LineReader.next_due.Given as goal

abbrev pub invariant-reading : goal.invariant-reading
invariant-reading g l = record {
  told : IsTold (g.S.Source.left l.initial.input) → IsTold (g.S.Source.left l.input) × (due_line (l.initial.self.number + 1) l.initial.self.taken (lines_ahead (pending l.initial.self) (g.S.Source.left l.initial.input)) ≡ due_line (l.self.number + 1) l.self.taken (lines_ahead (pending l.self) (g.S.Source.left l.input)));
  on : l.initial.self.taken ≤ l.self.taken;
  short : l.self.taken ≤ 2 ^ 26;
  stays : g.S.Source.faults l.input ≡ g.S.Source.faults l.initial.input;
}

abbrev pub decreases-reading : goal.decreases-reading
decreases-reading g l = 2 ^ 26 - l.self.taken
