use Rattle.std.proofs.Common.{◌≡◌, ℕ, ◌<◌, get_or}
use Rattle.ssd_geo.specs.Bits.{byte_of}
use Rattle.ssd_geo.specs.Decoding.{decided}
use Rattle.code_tests.proofs.ladders.any_word.decide.Given as goal

abbrev pub invariant-loop-j : goal.invariant-loop-j
invariant-loop-j l = (k : ℕ) → k < l.j → get_or l.word k 0 ≡ byte_of (decided l.values) k
