use Rattle.room_tests.specs.SmallChannel.{IsTried}
use Rattle.room_tests.proofs.channels.collecting.a_failed_run_ends_an_erase.Given as goal

abbrev pub invariant-loop-call : goal.invariant-loop-call
invariant-loop-call g l = IsTried l.channel.kept
