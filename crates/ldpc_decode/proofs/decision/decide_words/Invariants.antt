use Rattle.std.proofs.Common.{◌≡◌, ℕ, ◌*◌, ◌<◌, get_or}
use Rattle.ssd_geo.specs.Bits.{byte_of}
use Rattle.ssd_geo.specs.Decoding.{decided}
use Rattle.ldpc_decode.proofs.decision.decide_words.Given as goal

-- the bytes of the words so far
abbrev pub invariant-loop-w : goal.invariant-loop-w
invariant-loop-w l = (k : ℕ) → k < 8 * l.w → get_or l.word k 0 ≡ byte_of (decided l.p) k
