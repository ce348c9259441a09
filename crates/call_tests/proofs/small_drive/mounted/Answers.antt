use Rattle.std.proofs.Common.{arith}
use Rattle.call_tests.proofs.SmallStart.{is_head_of, three_dies_are}
use Rattle.call_tests.proofs.small_drive.mounted.Goals as goal

pub mount_drive-requires-clause-head : goal.mount_drive-requires-clause-head
mount_drive-requires-clause-head c = is_head_of c.args.head.now c.requires

pub mount_drive-requires-clause-enough : goal.mount_drive-requires-clause-enough
mount_drive-requires-clause-enough c =
    omega (arith, three_dies_are c.args.head.now c.requires, c.in_ok-dies.ensures.count)
