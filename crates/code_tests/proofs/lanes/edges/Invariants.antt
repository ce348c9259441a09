use Rattle.std.proofs.Common.{◌≡◌, All, vec_len}
use Rattle.ssd_geo.specs.RowRule.{IsWithin}
use Rattle.code_tests.proofs.lanes.edges.Given as goal

-- the numbers so far are within their bound
abbrev pub invariant-loop-number : goal.invariant-loop-number
invariant-loop-number l = record {
  count : vec_len l.numbers ≡ l.number;
  within : All (IsWithin 95) l.numbers.items;
}
