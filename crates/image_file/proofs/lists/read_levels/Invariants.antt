use Rattle.std.proofs.Common.{◌+◌, ◌*◌, ◌-◌, ◌≡◌, []}
use Rattle.ssd_formats.specs.Fields.{level_fields}
use Rattle.ssd_io.specs.Told.{IsTold}
use Rattle.image_file.specs.Gives.{rest_at}
use Rattle.image_file.specs.Lists.{AreLevels}
use Rattle.image_file.proofs.lists.read_levels.Given as goal

abbrev pub invariant-loop-i : goal.invariant-loop-i
invariant-loop-i g l = record {
  told : IsTold (g.S.Source.left l.initial.input) → IsTold (g.S.Source.left l.input);
  read : IsTold (g.S.Source.left l.initial.input) → level_fields (l.count - l.i) l.levels.items (rest_at (l.place + 2 * l.i) (g.S.Source.left l.input)) ≡ level_fields l.count [] (rest_at l.place (g.S.Source.left l.initial.input));
  good : AreLevels l.i l.levels.items;
  stays : g.S.Source.faults l.input ≡ g.S.Source.faults l.initial.input;
}
