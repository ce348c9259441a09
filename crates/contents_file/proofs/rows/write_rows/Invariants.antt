use Rattle.std.proofs.Common.{take}
use Rattle.std.specs.Prelude.{flat_map}
use Rattle.ssd_formats.specs.ImageContents.{row_bytes}
use Rattle.ssd_io.specs.Writes.{Wrote}
use Rattle.contents_file.proofs.rows.write_rows.Given as goal

abbrev pub invariant-loop-row : goal.invariant-loop-row
invariant-loop-row g l =
    Wrote g.O.Sink.written g.O.Sink.faults l.initial.output l.output (flat_map row_bytes (take l.row-index l.rows))
