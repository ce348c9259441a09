use Rattle.room_tests.proofs.TriedSteps.{keeps_plain, picks_plainly, tried_plain}
use Rattle.room_tests.proofs.channels.collecting.picked.Goals as goal

pub returns-clause-tried : goal.returns-clause-tried
returns-clause-tried g c =
    tried_plain c.args.channel.now.kept c.pick.new.self.kept
    (picks_plainly c.args.channel.now.kept c.pick.new.self.kept c.args.by c.pick.result c.pick.ensures.ok c.pick.ensures.err)
    c.requires

pub returns-clause-keeps : goal.returns-clause-keeps
returns-clause-keeps g c =
    keeps_plain c.args.channel.now.kept c.pick.new.self.kept
    (picks_plainly c.args.channel.now.kept c.pick.new.self.kept c.args.by c.pick.result c.pick.ensures.ok c.pick.ensures.err)
