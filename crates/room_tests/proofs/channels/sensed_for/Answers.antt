use Rattle.room_tests.proofs.TriedSteps.{sensed_looked}
use Rattle.room_tests.proofs.channels.sensed_for.Goals as goal

pub sense-requires-clause-may : goal.sense-requires-clause-may
sense-requires-clause-may g c = c.requires.fresh.may_sense

pub returns-clause-looked : goal.returns-clause-looked
returns-clause-looked g c =
    sensed_looked c.args.channel.now.kept c.sense.new.self.kept c.args.by c.args.at c.args.place _ c.sense.result
    c.requires.fresh c.sense.ensures.entry
