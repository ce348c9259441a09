use Rattle.std.proofs.Common.{◌≡◌, ◌*◌, ◌++◌, length, drop}
use Rattle.std.specs.Prelude.{option_map}
use Rattle.ssd_formats.specs.Numbers.{bytes_of_hex}
use Rattle.trace_text.proofs.content.listed.Given as goal

abbrev pub invariant-loop-i : goal.invariant-loop-i
invariant-loop-i l = record {
  count : length l.list.items ≡ l.i;
  read : bytes_of_hex l.digits ≡ option_map (λ rest. l.list.items ++ rest) (bytes_of_hex (drop (2 * l.i) l.digits));
}
