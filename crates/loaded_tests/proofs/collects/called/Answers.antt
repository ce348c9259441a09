use Rattle.loaded_tests.proofs.CollectingCalls.{is_lone, may_call}
use Rattle.loaded_tests.proofs.collects.called.Goals as goal

pub collected-requires-clause-lone : goal.collected-requires-clause-lone
collected-requires-clause-lone c =
    rw c.new-steps.ensures.channel (is_lone c.args.worker.now c.args.channel.now.kept _ _ c.requires)

pub collected-requires-clause-may : goal.collected-requires-clause-may
collected-requires-clause-may c =
    rw c.new-steps.ensures.channel (may_call c.args.worker.now c.args.channel.now.kept _ _ c.requires)
