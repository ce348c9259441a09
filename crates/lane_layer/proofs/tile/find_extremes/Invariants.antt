use Rattle.std.proofs.Common.{◌≡◌, ℕ, ◌+◌, ◌<◌, length, get_or}
use Rattle.lane_layer.proofs.RowLists.{IsKept}
use Rattle.lane_layer.proofs.tile.find_extremes.Given as goal

abbrev pub invariant-loop-e : goal.invariant-loop-e
invariant-loop-e g l = record {
  nearest_long : length l.nearest ≡ g.row.L;
  second_long : length l.second ≡ g.row.L;
  signs_long : length l.signs ≡ g.row.L;
  kept : (k : ℕ) → k < g.row.L → IsKept l.given l.z (l.t + k) l.e (get_or l.nearest k 0) (get_or l.second k 0) (get_or l.signs k 0);
}
