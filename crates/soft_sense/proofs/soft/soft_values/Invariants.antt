use Rattle.std.proofs.Common.{◌≡◌, ◌*◌, map, take}
use Rattle.std.specs.List.{range_with_len}
use Rattle.ssd_geo.specs.Senses.{five_senses, soft_value, zeros_at}
use Rattle.soft_sense.proofs.soft.soft_values.Given as goal

abbrev pub invariant-loop-j : goal.invariant-loop-j
invariant-loop-j l =
    take (8 * l.j) l.out ≡ map (λ i. soft_value (zeros_at (five_senses l.bytes l.five) i)) (range_with_len 0 (8 * l.j))
