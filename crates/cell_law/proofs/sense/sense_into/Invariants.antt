use Rattle.std.proofs.Common.{◌≡◌, ℕ, ◌*◌, ◌<◌, get_or, map}
use Rattle.ssd_geo.specs.Bits.{byte_of}
use Rattle.ssd_geo.specs.Cells.{sensed_bit}
use Rattle.cell_law.proofs.sense.sense_into.Given as goal

-- the bytes of the words so far, and then those of the bytes so far
abbrev pub invariant-loop-w : goal.invariant-loop-w
invariant-loop-w l =
    (k : ℕ) → k < 8 * l.w → get_or l.out k 0 ≡ byte_of (map (sensed_bit l.level) l.levels) k

abbrev pub invariant-loop-j : goal.invariant-loop-j
invariant-loop-j l =
    (k : ℕ) → k < l.j → get_or l.out k 0 ≡ byte_of (map (sensed_bit l.level) l.levels) k
