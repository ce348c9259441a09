use Rattle.std.proofs.Common.{◌+◌, ◌*◌, ◌-◌, ◌≡◌, [], length}
use Rattle.ssd_geo.specs.Shape.{sizes_of}
use Rattle.ssd_formats.specs.ImageHead.{bad_records}
use Rattle.ssd_io.specs.Told.{IsTold}
use Rattle.image_file.specs.Gives.{rest_at}
use Rattle.image_file.specs.Lists.{AreBad}
use Rattle.image_file.proofs.lists.read_bads.Given as goal

abbrev pub invariant-loop-i : goal.invariant-loop-i
invariant-loop-i g l = record {
  told : IsTold (g.S.Source.left l.initial.input) → IsTold (g.S.Source.left l.input);
  read : IsTold (g.S.Source.left l.initial.input) → bad_records (sizes_of l.shape) (l.count - l.i) l.bad.items (rest_at (l.place + 4 * l.i) (g.S.Source.left l.input)) ≡ bad_records (sizes_of l.shape) l.count [] (rest_at l.place (g.S.Source.left l.initial.input));
  few : length l.bad.items ≡ l.i;
  good : AreBad (sizes_of l.shape) l.i l.bad.items;
  stays : g.S.Source.faults l.input ≡ g.S.Source.faults l.initial.input;
}
