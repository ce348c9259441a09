use Rattle.std.proofs.Common.{◌-◌, ◌≤◌}
use Rattle.lane_layer.specs.Rows.{TellRows}
use Rattle.lane_layer.proofs.tile.work_tiles.Given as goal

abbrev pub decreases-loop-t : goal.decreases-loop-t
decreases-loop-t g l = l.z - l.t

abbrev pub invariant-loop-t : goal.invariant-loop-t
invariant-loop-t g l = TellRows l.given l.z l.degree l.told l.t × (l.t ≤ l.z)
