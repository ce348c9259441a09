use Rattle.room_tests.proofs.TriedSteps.{ages_plainly, tried_plain}
use Rattle.room_tests.proofs.channels.age.Goals as goal

pub returns : goal.returns
returns g c =
    tried_plain c.args.channel.now.kept c.age.new.self.kept
    (ages_plainly c.args.channel.now.kept c.age.new.self.kept c.tag.result c.args.die c.args.sb c.args.amount c.age.result
    c.age.ensures.ok c.age.ensures.faults) c.requires.tried
