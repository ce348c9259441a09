use Rattle.std.proofs.Common.{◌<◌, arith}
use Rattle.drive_dies.specs.Mounting.{die_count}
use Rattle.contents_tests.proofs.DriveDies.{has_block}
use Rattle.contents_tests.proofs.images.programmed_on.Goals as goal

pub programmed-requires : goal.programmed-requires
programmed-requires g c =
    let below : c.args.number < die_count c.args.head.now = omega arith in
    has_block g.D.Die.state c.args.head.now c.args.dies.now c.args.number c.index-dies-number.result c.requires below
    c.index-dies-number.is c.args.sb (omega arith)
