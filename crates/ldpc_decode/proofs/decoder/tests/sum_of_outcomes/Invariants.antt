use Rattle.std.proofs.Common.{◌≡◌, length}
use Rattle.ldpc_decode.proofs.decoder.tests.sum_of_outcomes.Given as goal

abbrev pub invariant-copies : goal.invariant-copies
invariant-copies l = (l.decoder ≡ l.initial.decoder) × (length l.word.items ≡ length l.codeword)
