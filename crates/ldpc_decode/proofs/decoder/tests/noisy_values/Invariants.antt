use Rattle.std.proofs.Common.{◌≡◌, length, All}
use Rattle.ssd_geo.specs.RowRule.{IsWithin}
use Rattle.ldpc_decode.proofs.decoder.tests.noisy_values.Given as goal

abbrev pub invariant-loop-i : goal.invariant-loop-i
invariant-loop-i l = (length l.values.items ≡ l.i) × All (IsWithin 127) l.values.items
