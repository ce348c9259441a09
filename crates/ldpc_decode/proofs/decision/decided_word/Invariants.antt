use Rattle.std.proofs.Common.{◌≡◌, ℕ, ◌+◌, ◌<◌, cond, get_or, length, pos}
use Rattle.ssd_geo.specs.RowRule.{is_negative}
use Rattle.ldpc_decode.proofs.decision.decided_word.Given as goal

-- the tests of the numbers so far
abbrev pub invariant-loop-i : goal.invariant-loop-i
invariant-loop-i l = record {
  long : length l.tests ≡ 64;
  each : (k : ℕ) → k < l.i → get_or l.tests k 0 ≡ cond (is_negative (get_or l.p (l.at + k) (pos 0))) 255 0;
}
