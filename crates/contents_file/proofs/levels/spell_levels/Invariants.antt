use Rattle.std.proofs.Common.{◌≡◌, ◌*◌, length, take}
use Rattle.std.specs.Prelude.{flat_map}
use Rattle.ssd_formats.specs.Fields.{bytes_of_signed}
use Rattle.contents_file.proofs.levels.spell_levels.Given as goal

-- the levels so far are spelled
abbrev pub invariant-loop-i : goal.invariant-loop-i
invariant-loop-i l = record {
  length : length l.bytes ≡ 2 * length l.levels;
  spelled : take (2 * l.i) l.bytes ≡ flat_map bytes_of_signed (take l.i l.levels);
}
