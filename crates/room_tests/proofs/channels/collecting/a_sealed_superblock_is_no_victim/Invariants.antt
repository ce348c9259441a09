use Rattle.room_tests.specs.SmallChannel.{IsTried}
use Rattle.room_tests.proofs.channels.collecting.a_sealed_superblock_is_no_victim.Given as goal

abbrev pub invariant-loop-call : goal.invariant-loop-call
invariant-loop-call g l = IsTried l.channel.kept

abbrev pub invariant-loop-sb : goal.invariant-loop-sb
invariant-loop-sb g l = IsTried l.channel.kept
