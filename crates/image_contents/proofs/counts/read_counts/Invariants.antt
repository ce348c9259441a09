use Rattle.std.proofs.Common.{◌+◌, ◌*◌, ◌-◌, ◌≡◌, ◌≤◌, [], take}
use Rattle.std.specs.Prelude.{All, IsTrue}
use Rattle.ssd_formats.specs.ImageContents.{are_programmed_counts, programmed_fields}
use Rattle.ssd_geo.specs.Shape.{sizes_of}
use Rattle.ssd_io.specs.Told.{IsTold}
use Rattle.image_file.specs.Gives.{rest_at}
use Rattle.image_contents.proofs.counts.read_counts.Given as goal

-- the counts so far, which may stand there, and what is left to read
abbrev pub invariant-loop-die : goal.invariant-loop-die
invariant-loop-die g l = record {
  told : IsTold (g.S.Source.left l.initial.input) → IsTold (g.S.Source.left l.input);
  read :
      IsTold (g.S.Source.left l.initial.input)
      → programmed_fields (sizes_of l.shape) l.block.state l.sb l.block.used (l.shape.dies - l.die) (take l.die l.counts) (rest_at (l.place + 2 * l.die) (g.S.Source.left l.input))
      ≡ programmed_fields (sizes_of l.shape) l.block.state l.sb l.block.used l.shape.dies [] (rest_at l.place (g.S.Source.left l.initial.input));
  good : IsTrue (are_programmed_counts (sizes_of l.shape) l.block.state l.sb l.block.used [] (take l.die l.counts));
  few : All (λ count. count ≤ l.shape.pages) (take l.die l.counts);
  stays : g.S.Source.faults l.input ≡ g.S.Source.faults l.initial.input;
}
