use Rattle.room_tests.proofs.TriedSteps.{tried_left}
use Rattle.room_tests.proofs.channels.left.Goals as goal

pub leave-requires : goal.leave-requires
leave-requires g c = c.requires.may_move.is_open

pub returns : goal.returns
returns g c =
    tried_left c.args.channel.now.kept c.leave.new.self.kept c.args.by c.args.at c.leave.ensures.entry c.requires.tried
