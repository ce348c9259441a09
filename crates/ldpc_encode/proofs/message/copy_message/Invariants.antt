use Rattle.std.proofs.Common.{◌≡◌, ℕ, ◌<◌, ◌≤◌, get_or}
use Rattle.ldpc_encode.proofs.message.copy_message.Given as goal

-- the bytes so far are the payload's, and the others are 0
abbrev pub invariant-loop-i : goal.invariant-loop-i
invariant-loop-i l = record {
  copied : (j : ℕ) → j < l.i → get_or l.out j 0 ≡ get_or l.payload j 0;
  blank : (j : ℕ) → l.i ≤ j → get_or l.out j 0 ≡ 0;
}
