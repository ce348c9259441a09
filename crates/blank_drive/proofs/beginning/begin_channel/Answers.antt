use Rattle.std.proofs.Common.{map}
use Rattle.ssd_formats.specs.ImageHead.{head_of}
use Rattle.blank_drive.proofs.BegunChannels.{cells_of_dies, has_begun, may_begin}
use Rattle.blank_drive.proofs.beginning.begin_channel.Goals as goal

pub start-requires : goal.start-requires
start-requires g c =
    may_begin c.args.head.now c.requires.head c.args.number c.requires.in_drive c.in_ok-base.base c.in_ok-base.ensures.base
    c.in_ok-base.ensures.shape (map g.D.Die.state c.args.dies.items) c.requires.dies c.args.limit c.requires.limit_low
    c.requires.limit_high _

pub returns-clause-begun : goal.returns-clause-begun
returns-clause-begun g c =
    has_begun (λ channel. channel.kept) (head_of c.args.head.now) c.args.limit c.args.number c.in_ok-base.base
    (map g.D.Die.state c.args.dies.items) _ c.start.result c.in_ok-base.ensures.base
    (cells_of_dies c.args.head.now c.args.number (map g.D.Die.state c.args.dies.items) c.requires.dies) c.start.ensures.begun
