use Rattle.std.proofs.Common.{◌≡◌, ◌+◌, ◌++◌, take, vec_len, vec_capacity}
use Rattle.onfi_cmd.proofs.writing.push_all.Given as goal

abbrev pub invariant-loop-cycle : goal.invariant-loop-cycle
invariant-loop-cycle l = record {
  items : l.out.items ≡ l.initial.out.items ++ take l.cycle-index l.cycles;
  len : vec_len l.out ≡ vec_len l.initial.out + l.cycle-index;
  capacity : vec_capacity l.out ≡ vec_capacity l.initial.out;
}
