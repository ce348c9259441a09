use Rattle.room_tests.proofs.TriedSteps.{may_condemn, stays_open, tried_lost}
use Rattle.room_tests.proofs.channels.moving.condemned_for.Goals as goal

pub condemn_if-answer-requires : goal.condemn_if-answer-requires
condemn_if-answer-requires g c = may_condemn c.args.channel.now.kept c.args.by c.args.at c.requires

pub leave-requires : goal.leave-requires
leave-requires g c =
    stays_open c.args.channel.now.kept c.condemn_if-answer.new.self.kept c.args.by c.args.at c.condemn_if-answer.ensures.looks
    c.requires.may_move.is_open

pub returns : goal.returns
returns g c =
    tried_lost c.args.channel.now.kept c.condemn_if-answer.new.self.kept c.leave.new.self.kept c.args.by c.args.at
    c.condemn_if-answer.result c.requires c.condemn_if-answer.ensures.entry c.leave.ensures.entry
