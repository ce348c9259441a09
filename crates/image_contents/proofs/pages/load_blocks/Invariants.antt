use Rattle.std.proofs.Common.{◌≡◌, ◌+◌, ◌*◌, ◌^◌, ◌≤◌, [], drop, map, take}
use Rattle.std.specs.Prelude.{vec_len}
use Rattle.ssd_formats.specs.ImageContents.{die_fields}
use Rattle.ssd_geo.specs.Limits.{page_cells_of}
use Rattle.ssd_geo.specs.Shape.{sizes_of}
use Rattle.ssd_io.specs.Told.{IsTold}
use Rattle.drive_dies.specs.Mounting.{EachBecomes}
use Rattle.image_file.specs.Gives.{rest_at}
use Rattle.image_contents.specs.DiesLoaded.{pages_in}
use Rattle.image_contents.proofs.DiesLoop.{IsLoadedBelow}
use Rattle.image_contents.proofs.pages.load_blocks.Given as goal

-- so many dies were loaded, and what is left to read
abbrev pub invariant-loop-die : goal.invariant-loop-die
invariant-loop-die g l =
    let cells = page_cells_of (sizes_of l.shape) in
    record {
      told : IsTold (g.S.Source.left l.initial.input) → IsTold (g.S.Source.left l.input);
      read :
          IsTold (g.S.Source.left l.initial.input)
          → die_fields cells (drop l.die l.counts) (pages_in l.sb (take l.die (map g.D.Die.state l.dies))) (rest_at l.place (g.S.Source.left l.input))
          ≡ die_fields cells l.counts [] (rest_at l.initial.place (g.S.Source.left l.initial.input));
      stays : g.S.Source.faults l.input ≡ g.S.Source.faults l.initial.input;
      loaded : EachBecomes (IsLoadedBelow l.sb l.erases cells l.counts l.die) (map g.D.Die.state l.initial.dies) (map g.D.Die.state l.dies);
      place_low : l.initial.place ≤ l.place;
      place_high : l.place ≤ l.initial.place + l.die * (256 * 2 ^ 20);
      length : vec_len l.work.levels ≡ cells;
    }
