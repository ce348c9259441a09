use Rattle.room_tests.proofs.TriedSteps.{live_fresh, tried_live}
use Rattle.room_tests.proofs.channels.collecting.looked_live.Goals as goal

pub returns-clause-tried : goal.returns-clause-tried
returns-clause-tried g c =
    tried_live c.args.channel.now.kept c.look_live.new.self.kept c.args.by c.args.sb c.look_live.result c.look_live.ensures.ok
    c.look_live.ensures.err c.requires

pub returns-clause-found : goal.returns-clause-found
returns-clause-found g c =
    live_fresh c.args.channel.now.kept c.look_live.new.self.kept c.args.by c.args.sb c.look_live.result c.look_live.ensures.ok
    c.requires
