use Rattle.std.proofs.Common.{◌≡◌, ◌*◌, map, take}
use Rattle.std.specs.List.{range_with_len}
use Rattle.ssd_geo.specs.Bits.{bit_of}
use Rattle.ssd_geo.specs.Senses.{hard_value}
use Rattle.soft_sense.proofs.hard.hard_values.Given as goal

abbrev pub invariant-loop-j : goal.invariant-loop-j
invariant-loop-j l =
    take (8 * l.j) l.out ≡ map (λ i. hard_value (bit_of l.bits i)) (range_with_len 0 (8 * l.j))
