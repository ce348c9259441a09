use Rattle.std.proofs.Common.{◌≡◌, ◌≤◌, length}
use Rattle.std.specs.Vec.{vec_capacity}
use Rattle.collect_tests.proofs.drives.outcome.Given as goal

-- there are as many policies as turns, and room for all
abbrev pub invariant-loop : goal.invariant-loop
invariant-loop l = record {
  count : length l.policies.items ≡ l.counter;
  room : 8 ≤ vec_capacity l.policies;
}
