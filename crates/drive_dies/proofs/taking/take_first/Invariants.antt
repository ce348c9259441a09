use Rattle.std.proofs.Common.{◌≡◌, ◌≤◌, ◌+◌, vec_len, take, drop}
use Rattle.std.specs.Vec.{vec_capacity}
use Rattle.drive_dies.proofs.taking.take_first.Given as goal

-- the first dies so far are taken, and there is room for all
abbrev pub invariant-loop : goal.invariant-loop
invariant-loop g l = record {
  taken : l.taken.items ≡ take l.counter l.initial.dies.items;
  left : l.dies.items ≡ drop l.counter l.initial.dies.items;
  len : vec_len l.taken ≡ l.counter;
  rest : vec_len l.dies + l.counter ≡ vec_len l.initial.dies;
  room : l.count ≤ vec_capacity l.taken;
}
