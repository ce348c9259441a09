use Rattle.std.proofs.Common.{◌≡◌, map}
use Rattle.drive_dies.specs.Mounting.{IsMountedBelow, EachBecomes}
use Rattle.drive_dies.proofs.EachDie.{HasLaws}
use Rattle.drive_dies.proofs.mounting.mount_each.Given as goal

-- the plan is one of the drive's but for its numbers, and the dies so far are mounted
abbrev pub invariant-loop-number : goal.invariant-loop-number
invariant-loop-number g l = record {
  laws : HasLaws l.head l.plan;
  mounted : EachBecomes (IsMountedBelow l.head l.number) (map g.D.Die.state l.initial.dies) (map g.D.Die.state l.dies);
}
