use Rattle.std.proofs.Common.{◌≡◌, length}
use Rattle.loaded_tests.proofs.loaded_channel.word_levels.Given as goal

abbrev pub invariant-loop-bit : goal.invariant-loop-bit
invariant-loop-bit l = length l.levels ≡ 384
