use Rattle.std.proofs.Common.{◌≡◌, drop, map}
use Rattle.raced_channels.specs.Columns.{AreColumns}
use Rattle.raced_channels.proofs.columns.columns_of.Given as goal

-- so many columns are made, and as much of each row is gone
abbrev pub invariant-loop-number : goal.invariant-loop-number
invariant-loop-number l = record {
  left : map (λ row. row.items) l.rows.items ≡ map (λ row. drop l.number row.items) l.initial.rows.items;
  columns : AreColumns l.number (map (λ row. row.items) l.initial.rows.items) (map (λ column. column.items) l.columns.items);
}
