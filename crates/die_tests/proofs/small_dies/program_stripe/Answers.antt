use Rattle.die_tests.proofs.StripeSteps.{second_next, stays_tried}
use Rattle.die_tests.proofs.small_dies.program_stripe.Goals as goal

pub program-second-requires-clause-next : goal.program-second-requires-clause-next
program-second-requires-clause-next g c =
    second_next c.args.dies.now c.program-first.new.self _ c.program-first.result c.requires.tried c.requires.blank c.program-first.ensures

pub returns : goal.returns
returns g c =
    stays_tried c.program-first.new.self c.program-second.new.self 1 _ c.program-second.result c.program-second.ensures
    (stays_tried c.args.dies.now c.program-first.new.self 0 _ c.program-first.result c.program-first.ensures c.requires.tried)
