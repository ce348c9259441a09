use Rattle.room_tests.proofs.TriedSteps.{keeps_plain, trims_plainly, tried_plain}
use Rattle.room_tests.proofs.channels.trim.Goals as goal

pub returns-clause-tried : goal.returns-clause-tried
returns-clause-tried g c =
    tried_plain c.args.channel.now.kept c.trim.new.self.kept
    (trims_plainly c.args.channel.now.kept c.trim.new.self.kept c.tag.result c.args.row c.trim.result c.trim.ensures.ok
    c.trim.ensures.err) c.requires.tried

pub returns-clause-keeps : goal.returns-clause-keeps
returns-clause-keeps g c =
    keeps_plain c.args.channel.now.kept c.trim.new.self.kept
    (trims_plainly c.args.channel.now.kept c.trim.new.self.kept c.tag.result c.args.row c.trim.result c.trim.ensures.ok
    c.trim.ensures.err)
