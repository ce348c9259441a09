use Rattle.std.proofs.Common.{◌≡◌, map, take}
use Rattle.std.specs.Prelude.{flat_map, vec_len}
use Rattle.ssd_formats.specs.ImageContents.{block_bytes, saved_channel}
use Rattle.ssd_io.specs.Writes.{Wrote}
use Rattle.contents_file.specs.DiesCopied.{cells_told}
use Rattle.contents_file.proofs.block.write_blocks.Given as goal

-- so many superblocks were written, and the dies stay
abbrev pub invariant-loop-sb : goal.invariant-loop-sb
invariant-loop-sb g l = record {
  wrote :
      Wrote g.O.Sink.written g.O.Sink.faults l.initial.output l.output
      (flat_map block_bytes (take l.sb (saved_channel l.base (cells_told (map g.D.Die.state l.initial.dies))).blocks));
  stays : map g.D.Die.state l.dies ≡ map g.D.Die.state l.initial.dies;
  length : vec_len l.work.levels ≡ vec_len l.initial.work.levels;
}
