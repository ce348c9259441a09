use Rattle.std.proofs.Common.{◌≡◌, ◌-◌, []}
use Rattle.turn_table.specs.Passes.{new_passes}
use Rattle.turn_table.proofs.Dealing.{dealing}
use Rattle.turn_table.proofs.steps.deal.Given as goal

abbrev pub invariant-loop : goal.invariant-loop
invariant-loop g l = record {
  table : l.first.table_id ≡ l.board.table_id;
  gives : l.first.me ≡ (dealing l.counter l.count, []);
  dealt : l.passes.items ≡ new_passes l.board.table_id 1 (l.counter - 1);
}
