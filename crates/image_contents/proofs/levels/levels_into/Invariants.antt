use Rattle.std.proofs.Common.{◌≡◌, ◌*◌, ◌++◌, drop, take}
use Rattle.std.specs.Prelude.{IsTrue}
use Rattle.std.specs.List.{list_all}
use Rattle.ssd_formats.specs.ImageHead.{signed_numbers}
use Rattle.ssd_geo.specs.Limits.{is_level}
use Rattle.image_contents.proofs.levels.levels_into.Given as goal

-- the levels so far are those of the bytes, and each passed
abbrev pub invariant-loop-i : goal.invariant-loop-i
invariant-loop-i l = record {
  so_far : take l.i l.levels ++ signed_numbers (drop (2 * l.i) (take (2 * l.count) l.bytes)) ≡ signed_numbers (take (2 * l.count) l.bytes);
  passed : IsTrue (list_all is_level (take l.i l.levels));
}
