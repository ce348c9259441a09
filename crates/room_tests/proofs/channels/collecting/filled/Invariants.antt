use Rattle.room_tests.specs.SmallChannel.{IsTried}
use Rattle.room_tests.proofs.channels.collecting.filled.Given as goal

abbrev pub invariant-loop-call : goal.invariant-loop-call
invariant-loop-call g l = IsTried l.channel.kept
