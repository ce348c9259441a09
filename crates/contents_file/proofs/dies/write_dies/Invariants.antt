use Rattle.std.proofs.Common.{◌≡◌, map, take}
use Rattle.std.specs.Prelude.{flat_map, vec_len}
use Rattle.ssd_formats.specs.ImageContents.{pages_at, pages_bytes}
use Rattle.ssd_io.specs.Writes.{Wrote}
use Rattle.contents_file.specs.DiesCopied.{cells_told}
use Rattle.contents_file.proofs.dies.write_dies.Given as goal

-- the pages of so many dies were written, and the dies stay
abbrev pub invariant-loop-die : goal.invariant-loop-die
invariant-loop-die g l = record {
  wrote :
      Wrote g.O.Sink.written g.O.Sink.faults l.initial.output l.output
      (flat_map pages_bytes (take l.die (map (pages_at l.sb) (cells_told (map g.D.Die.state l.initial.dies)))));
  stays : map g.D.Die.state l.dies ≡ map g.D.Die.state l.initial.dies;
  length : vec_len l.work.levels ≡ vec_len l.initial.work.levels;
}
