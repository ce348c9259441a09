use Rattle.std.proofs.Common.{◌≡◌, ℕ, ◌+◌, ◌<◌, cond, get_or, length, pos}
use Rattle.ssd_geo.specs.Cells.{sensed_bit}
use Rattle.cell_law.proofs.sense.sensed_word.Given as goal

-- the tests of the cells so far
abbrev pub invariant-loop-i : goal.invariant-loop-i
invariant-loop-i g l = record {
  long : length l.tests ≡ g.row.L;
  each : (k : ℕ) → k < l.i → get_or l.tests k 0 ≡ cond (sensed_bit l.level (get_or l.levels (l.at + k) (pos 0))) 255 0;
}
