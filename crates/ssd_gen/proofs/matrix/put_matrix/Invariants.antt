use Rattle.std.proofs.Common.{◌≡◌}
use Rattle.std.specs.List.{range_with_len}
use Rattle.std.specs.Prelude.{flat_map}
use Rattle.ssd_formats.specs.GeneratedWork.{drawn_before_row}
use Rattle.ssd_geo.specs.Noise.{state_after}
use Rattle.ssd_io.specs.Writes.{Wrote}
use Rattle.ssd_gen.proofs.WorkParts.{row_piece}
use Rattle.ssd_gen.proofs.matrix.put_matrix.Given as goal

abbrev pub invariant-loop-row : goal.invariant-loop-row
invariant-loop-row g l = record {
  noise : l.noise ≡ state_after l.initial.noise (drawn_before_row l.row);
  wrote : Wrote g.O.Sink.written g.O.Sink.faults l.initial.output l.output (flat_map (row_piece l.initial.noise) (range_with_len 0 l.row));
}
