use Rattle.std.proofs.Common.{◌≡◌, ℕ, ◌<◌, false, cond}
use Rattle.std.specs.Prelude.{nat_le, nat_lt, ◌&&◌}
use Rattle.ssd_geo.specs.Bits.{bit_of}
use Rattle.ldpc_encode.specs.Encoding.{AddsToParity, rows_sum_bit}
use Rattle.ldpc_encode.proofs.encode.add_sums.Given as goal

-- the sums so far are added, and the sum of the rows so far is kept
abbrev pub invariant-loop-i : goal.invariant-loop-i
invariant-loop-i l = record {
  added : AddsToParity l.code l.initial.out l.out (λ t r. cond (nat_lt 0 t && nat_le t l.i) (rows_sum_bit l.code l.payload t r) false);
  sum : (r : ℕ) → r < l.code.z → bit_of l.sum r ≡ rows_sum_bit l.code l.payload l.i r;
}
