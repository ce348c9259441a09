use Rattle.room_tests.specs.SmallChannel.{IsTried}
use Rattle.room_tests.proofs.channels.a_write_needs_room_after_twelve.Given as goal

abbrev pub invariant-loop-call : goal.invariant-loop-call
invariant-loop-call g l = IsTried l.channel.kept
