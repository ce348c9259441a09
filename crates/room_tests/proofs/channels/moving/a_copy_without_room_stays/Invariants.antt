use Rattle.room_tests.specs.SmallChannel.{IsTried}
use Rattle.room_tests.proofs.channels.moving.a_copy_without_room_stays.Given as goal

abbrev pub invariant-loop-call : goal.invariant-loop-call
invariant-loop-call g l = IsTried l.channel.kept
