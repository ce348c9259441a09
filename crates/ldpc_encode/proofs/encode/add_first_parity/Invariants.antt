use Rattle.std.proofs.Common.{◌≡◌, false, cond}
use Rattle.std.specs.Prelude.{nat_lt}
use Rattle.ssd_geo.specs.BaseMatrix.{has_middle_before}
use Rattle.ldpc_encode.specs.Encoding.{AddsToParity, first_added}
use Rattle.ldpc_encode.proofs.encode.add_first_parity.Given as goal

-- the first parity block is added to those before t, and it is known whether the middle row stands before t
abbrev pub invariant-loop-t : goal.invariant-loop-t
invariant-loop-t l = record {
  added : AddsToParity l.code l.fn.out l.out (λ t r. cond (nat_lt t l.t) (first_added l.code l.first t r) false);
  middle : l.middle ≡ has_middle_before l.code l.t;
}
