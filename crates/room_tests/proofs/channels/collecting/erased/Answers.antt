use Rattle.room_tests.proofs.TriedSteps.{erases_plainly, keeps_plain, tried_plain}
use Rattle.room_tests.proofs.channels.collecting.erased.Goals as goal

pub returns-clause-tried : goal.returns-clause-tried
returns-clause-tried g c =
    tried_plain c.args.channel.now.kept c.erase_if.new.self.kept
    (erases_plainly c.args.channel.now.kept c.erase_if.new.self.kept c.args.by c.args.sb c.erase_if.result c.erase_if.ensures.ok
    c.erase_if.ensures.faults) c.requires

pub returns-clause-keeps : goal.returns-clause-keeps
returns-clause-keeps g c =
    keeps_plain c.args.channel.now.kept c.erase_if.new.self.kept
    (erases_plainly c.args.channel.now.kept c.erase_if.new.self.kept c.args.by c.args.sb c.erase_if.result c.erase_if.ensures.ok
    c.erase_if.ensures.faults)
