use Rattle.std.proofs.Common.{◌≡◌, ℕ, ◌+◌, ◌<◌, get_or, pos, ◌-ℤ◌}
use Rattle.ssd_geo.specs.Decoding.{clamped}
use Rattle.lane_layer.specs.Rows.{number_of}
use Rattle.lane_layer.proofs.runs.give.Given as goal

abbrev pub invariant-loop-i : goal.invariant-loop-i
invariant-loop-i l = record {
  written : (k : ℕ) → k < l.i → number_of (get_or l.given (l.edge + k) 0) ≡ clamped (get_or l.p (l.variable + k) (pos 0) -ℤ get_or l.r (l.edge + k) (pos 0));
  before : (k : ℕ) → k < l.edge → get_or l.given k 0 ≡ get_or l.initial.given k 0;
}
