use Rattle.std.proofs.Common.{◌+◌, ◌*◌, ◌-◌, ◌≡◌, []}
use Rattle.ssd_geo.specs.Shape.{sizes_of}
use Rattle.ssd_formats.specs.ImageHead.{weak_records}
use Rattle.ssd_io.specs.Told.{IsTold}
use Rattle.image_file.specs.Gives.{rest_at}
use Rattle.image_file.specs.Lists.{AreWeak}
use Rattle.image_file.proofs.lists.read_weaks.Given as goal

abbrev pub invariant-loop-i : goal.invariant-loop-i
invariant-loop-i g l = record {
  told : IsTold (g.S.Source.left l.initial.input) → IsTold (g.S.Source.left l.input);
  read : IsTold (g.S.Source.left l.initial.input) → weak_records (sizes_of l.shape) (l.count - l.i) l.weak.items (rest_at (l.place + 8 * l.i) (g.S.Source.left l.input)) ≡ weak_records (sizes_of l.shape) l.count [] (rest_at l.place (g.S.Source.left l.initial.input));
  good : AreWeak (sizes_of l.shape) l.i l.weak.items;
  stays : g.S.Source.faults l.input ≡ g.S.Source.faults l.initial.input;
}
