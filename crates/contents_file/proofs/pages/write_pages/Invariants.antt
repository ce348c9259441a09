use Rattle.std.proofs.Common.{◌≡◌, take}
use Rattle.std.specs.Prelude.{flat_map, vec_len}
use Rattle.ssd_formats.specs.Fields.{bytes_of_signed}
use Rattle.ssd_formats.specs.ImageContents.{pages_at}
use Rattle.ssd_io.specs.Writes.{Wrote}
use Rattle.chan_dies.specs.DiesState.{blocks_in}
use Rattle.contents_file.proofs.pages.write_pages.Given as goal

-- so many pages were written, and the die stays
abbrev pub invariant-loop-page : goal.invariant-loop-page
invariant-loop-page g l = record {
  wrote :
      Wrote g.O.Sink.written g.O.Sink.faults l.initial.output l.output
      (flat_map (flat_map bytes_of_signed) (take l.page (pages_at l.sb (blocks_in (g.D.Die.state l.initial.die)))));
  stays : g.D.Die.state l.die ≡ g.D.Die.state l.initial.die;
  length : vec_len l.work.levels ≡ vec_len l.initial.work.levels;
}
