use Rattle.std.proofs.Common.{◌≡◌}
use Rattle.std.specs.List.{range_with_len}
use Rattle.std.specs.Prelude.{flat_map}
use Rattle.ssd_geo.specs.Noise.{state_after}
use Rattle.ssd_gen.specs.RowWords.{entry_bytes, words_before}
use Rattle.ssd_io.specs.Writes.{Wrote}
use Rattle.ssd_gen.proofs.matrix.put_row.Given as goal

abbrev pub invariant-loop-column : goal.invariant-loop-column
invariant-loop-column g l = record {
  noise : l.noise ≡ state_after l.initial.noise (words_before l.row l.column);
  wrote : Wrote g.O.Sink.written g.O.Sink.faults l.initial.output l.output (flat_map (entry_bytes l.initial.noise l.row) (range_with_len 0 l.column));
}
