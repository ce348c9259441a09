use Rattle.std.proofs.Common.{map, take}
use Rattle.std.specs.Prelude.{flat_map}
use Rattle.ssd_formats.specs.ImageContents.{pages_at}
use Rattle.ssd_io.specs.Writes.{Wrote}
use Rattle.contents_file.specs.BlockParts.{count_bytes}
use Rattle.contents_file.specs.DiesCopied.{cells_told}
use Rattle.contents_file.proofs.front.write_counts.Given as goal

abbrev pub invariant-loop-die : goal.invariant-loop-die
invariant-loop-die g l =
    Wrote g.O.Sink.written g.O.Sink.faults l.initial.output l.output
    (flat_map count_bytes (take l.die (map (pages_at l.sb) (cells_told (map g.D.Die.state l.dies)))))
