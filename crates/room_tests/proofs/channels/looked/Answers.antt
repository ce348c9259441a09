use Rattle.room_tests.proofs.TriedSteps.{look_fresh, look_tried}
use Rattle.room_tests.proofs.channels.looked.Goals as goal

pub returns-clause-tried : goal.returns-clause-tried
returns-clause-tried g c =
    look_tried c.args.channel.now.kept c.look.new.self.kept c.args.by c.args.row c.look.result c.look.ensures.ok
    c.look.ensures.err
    c.requires.tried

pub returns-clause-found : goal.returns-clause-found
returns-clause-found g c =
    look_fresh c.args.channel.now.kept c.look.new.self.kept c.args.by c.args.row c.look.result c.look.ensures.ok
    c.requires.tried
