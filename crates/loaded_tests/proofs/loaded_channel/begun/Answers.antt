use Rattle.loaded_tests.proofs.LoadedStart.{three_weak}
use Rattle.loaded_tests.proofs.loaded_channel.begun.Goals as goal

pub begun_with-requires-clause-weak : goal.begun_with-requires-clause-weak
begun_with-requires-clause-weak g c =
    three_weak c.args.shape _ _ _ _ _ _ c.requires c.weak.ensures c.weak-2.ensures c.weak-3.ensures
