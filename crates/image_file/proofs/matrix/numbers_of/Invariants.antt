use Rattle.std.proofs.Common.{◌≡◌, ◌*◌, ◌++◌, drop, length}
use Rattle.ssd_formats.specs.ImageHead.{signed_numbers}
use Rattle.image_file.proofs.matrix.numbers_of.Given as goal

abbrev pub invariant-loop-i : goal.invariant-loop-i
invariant-loop-i l = record {
  so_far : l.numbers.items ++ signed_numbers (drop (2 * l.i) l.bytes) ≡ signed_numbers l.bytes;
  count : length l.numbers.items ≡ l.i;
}
