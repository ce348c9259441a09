use Rattle.std.proofs.Common.{map, arith}
use Rattle.std.proofs.lemmas.List.{length-map}
use Rattle.drive_dies.proofs.MountedDies.{are_ready, counts_mounts}
use Rattle.drive_dies.proofs.mounting.mount_dies.Goals as goal

pub returns-clause-counts : goal.returns-clause-counts
returns-clause-counts g c =
    counts_mounts c.args.head.now (map g.D.Die.state c.args.dies.now) (map g.D.Die.state c.mount_each.new.dies) c.mount_each.result
    (omega (arith, c.requires.count, length-map c.args.dies.now g.D.Die.state)) c.mount_each.ensures

pub returns-clause-ready : goal.returns-clause-ready
returns-clause-ready g c =
    are_ready c.args.head.now (map g.D.Die.state c.args.dies.now) (map g.D.Die.state c.mount_each.new.dies) c.mount_each.result
    (omega (arith, c.requires.count, length-map c.args.dies.now g.D.Die.state)) c.mount_each.ensures
