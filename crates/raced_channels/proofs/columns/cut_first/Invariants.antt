use Rattle.std.proofs.Common.{◌≡◌, Some, drop, map, slice_get, take}
use Rattle.raced_channels.proofs.columns.cut_first.Given as goal

-- the rows so far are cut, and the others left
abbrev pub invariant-loop-number : goal.invariant-loop-number
invariant-loop-number l = record {
  left : l.rows.items ≡ drop l.number l.initial.rows.items;
  column : map (λ pass. Some pass) l.column.items ≡ map (λ row. slice_get row.items 0) (take l.number l.initial.rows.items);
  rest : map (λ row. row.items) l.rest.items ≡ map (λ row. drop 1 row.items) (take l.number l.initial.rows.items);
}
