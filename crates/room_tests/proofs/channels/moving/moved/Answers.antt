use Rattle.room_tests.proofs.TriedSteps.{stays_open, tried_copied}
use Rattle.room_tests.proofs.channels.moving.moved.Goals as goal

pub move_if-answer-requires-clause-may : goal.move_if-answer-requires-clause-may
move_if-answer-requires-clause-may g c = c.requires.may_move

pub leave-requires : goal.leave-requires
leave-requires g c =
    stays_open c.args.channel.now.kept c.move_if-answer.new.self.kept c.args.by c.args.at c.move_if-answer.ensures.looks
    c.requires.may_move.is_open

pub returns : goal.returns
returns g c =
    tried_copied c.args.channel.now.kept c.move_if-answer.new.self.kept c.leave.new.self.kept c.args.by c.args.at
    c.move_if-answer.result c.requires c.move_if-answer.ensures.entry c.leave.ensures.entry
