use Rattle.std.proofs.Common.{◌≡◌, ◌+◌, ◌-◌, ◌*◌, ◌≤◌, [], length, true}
use Rattle.ssd_formats.specs.ImageContents.{are_saved_rows, row_fields}
use Rattle.ssd_geo.specs.Shape.{sizes_of}
use Rattle.ssd_io.specs.Told.{IsTold}
use Rattle.image_file.specs.Gives.{rest_at}
use Rattle.image_contents.specs.Parts.{FitsRows}
use Rattle.image_contents.proofs.rows.read_rows.Given as goal

-- so many rows were read, and what is left to read
abbrev pub invariant-loop : goal.invariant-loop
invariant-loop g l = record {
  told : IsTold (g.S.Source.left l.initial.input) → IsTold (g.S.Source.left l.input);
  read :
      IsTold (g.S.Source.left l.initial.input)
      → row_fields (sizes_of l.shape) l.blocks (l.shape.rows - l.counter) l.rows.rows.items (rest_at l.place (g.S.Source.left l.input))
      ≡ row_fields (sizes_of l.shape) l.blocks l.shape.rows [] (rest_at l.initial.place (g.S.Source.left l.initial.input));
  stays : g.S.Source.faults l.input ≡ g.S.Source.faults l.initial.input;
  right : are_saved_rows (sizes_of l.shape) l.blocks [] l.rows.rows.items ≡ true;
  count : length l.rows.rows.items ≡ l.counter;
  fits : FitsRows (sizes_of l.shape) l.blocks l.rows.superblocks l.rows.slots;
  place_low : l.initial.place ≤ l.place;
  place_high : l.place ≤ l.initial.place + 15 * l.counter;
}
