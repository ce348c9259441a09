use Rattle.std.proofs.Common.{◌≡◌, ◌+◌, ◌*◌, ◌-◌, []}
use Rattle.ssd_formats.specs.ImageContents.{page_fields}
use Rattle.ssd_geo.specs.Limits.{page_cells_of}
use Rattle.ssd_geo.specs.Shape.{sizes_of}
use Rattle.ssd_io.specs.Told.{IsTold}
use Rattle.image_file.specs.Gives.{rest_at}
use Rattle.std.specs.Prelude.{vec_len}
use Rattle.image_contents.specs.DiesLoaded.{ChangesBlock, IsLoadedBlock, block_of}
use Rattle.image_contents.proofs.pages.load_pages.Given as goal

-- so many pages were loaded, and what is left to read
abbrev pub invariant-loop-page : goal.invariant-loop-page
invariant-loop-page g l =
    let cells = page_cells_of (sizes_of l.shape) in
    record {
      told : IsTold (g.S.Source.left l.initial.input) → IsTold (g.S.Source.left l.input);
      read :
          IsTold (g.S.Source.left l.initial.input)
          → page_fields cells (l.count - l.page) (block_of l.sb (g.D.Die.state l.die)).pages (rest_at l.place (g.S.Source.left l.input))
          ≡ page_fields cells l.count [] (rest_at l.initial.place (g.S.Source.left l.initial.input));
      stays : g.S.Source.faults l.input ≡ g.S.Source.faults l.initial.input;
      changes : ChangesBlock l.sb (g.D.Die.state l.initial.die) (g.D.Die.state l.die);
      loaded : IsLoadedBlock (block_of l.sb (g.D.Die.state l.initial.die)).erases l.page cells (block_of l.sb (g.D.Die.state l.die));
      loads_stay : (g.D.Die.state l.die).load_count ≡ (g.D.Die.state l.initial.die).load_count;
      place : l.place ≡ l.initial.place + l.page * (2 * cells);
      length : vec_len l.work.levels ≡ cells;
    }
