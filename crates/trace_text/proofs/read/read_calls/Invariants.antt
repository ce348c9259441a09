use Rattle.std.proofs.Common.{◌≡◌, ◌+◌, ◌-◌, ◌^◌, ◌≤◌, []}
use Rattle.ssd_geo.specs.Shape.{sizes_of}
use Rattle.ssd_formats.specs.TraceText.{calls_of_lines}
use Rattle.ssd_io.specs.Told.{IsTold}
use Rattle.trace_text.specs.BytesAhead.{lines_ahead}
use Rattle.trace_text.specs.NumberedCalls.{AreCalls}
use Rattle.trace_text.specs.ReadLines.{pending}
use Rattle.trace_text.proofs.read.read_calls.Given as goal

abbrev pub invariant-reading : goal.invariant-reading
invariant-reading g l = record {
  told : IsTold (g.S.Source.left l.initial.input) → IsTold (g.S.Source.left l.input) × (calls_of_lines (sizes_of l.shape) l.actors (l.initial.lines.number + 1) l.initial.lines.taken [] (lines_ahead (pending l.initial.lines) (g.S.Source.left l.initial.input)) ≡ calls_of_lines (sizes_of l.shape) l.actors (l.lines.number + 1) l.lines.taken l.calls (lines_ahead (pending l.lines) (g.S.Source.left l.input)));
  numbered : AreCalls (sizes_of l.shape) l.actors l.calls;
  short : l.lines.taken ≤ 2 ^ 26;
  stays : g.S.Source.faults l.input ≡ g.S.Source.faults l.initial.input;
}

abbrev pub decreases-reading : goal.decreases-reading
decreases-reading g l = 2 ^ 26 - l.lines.taken
