use Rattle.room_tests.proofs.TriedSteps.{keeps_plain, writes_plainly, tried_plain}
use Rattle.room_tests.proofs.channels.write.Goals as goal

pub returns-clause-tried : goal.returns-clause-tried
returns-clause-tried g c =
    tried_plain c.args.channel.now.kept c.write.new.self.kept
    (writes_plainly c.args.channel.now.kept c.write.new.self.kept c.tag.result c.args.row c.write.result c.write.ensures.ok
    c.write.ensures.faults) c.requires.tried

pub returns-clause-keeps : goal.returns-clause-keeps
returns-clause-keeps g c =
    keeps_plain c.args.channel.now.kept c.write.new.self.kept
    (writes_plainly c.args.channel.now.kept c.write.new.self.kept c.tag.result c.args.row c.write.result c.write.ensures.ok
    c.write.ensures.faults)
