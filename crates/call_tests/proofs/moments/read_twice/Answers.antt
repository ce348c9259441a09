use Rattle.call_tests.proofs.SmallStart.{small_may_try}
use Rattle.call_tests.proofs.moments.read_twice.Goals as goal

pub written-requires-clause-may : goal.written-requires-clause-may
written-requires-clause-may c κs within =
    rw (c.new-steps.ensures, c.new.ensures.channel)
    (small_may_try c.args.worker.now c.args.channel.now.kept _ _ c.requires.worker c.requires.channel)
