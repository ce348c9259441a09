use Rattle.raced_channels.proofs.Cuts.{are_long, cut_more, one_column_more}
use Rattle.raced_channels.proofs.columns.columns_of.Goals as goal

pub cut_first-requires : goal.cut_first-requires
cut_first-requires c =
    are_long (λ row. row.items) c.loop-number.rows.items c.args.rows.items c.loop-number.number c.args.width
    c.loop-number.invariant.left c.requires c.loop-number-test.true

pub loop-number-preserved : goal.loop-number-preserved
loop-number-preserved c = record {
  left =
      cut_more (λ row. row.items) c.loop-number.rows.items c.args.rows.items c.in_ok-column.field-0.rest.items c.loop-number.number
      c.loop-number.invariant.left c.in_ok-column.ensures.rest;
  columns =
      one_column_more (λ row. row.items) c.loop-number.rows.items c.args.rows.items c.loop-number.columns.items
      c.push.new.self.items c.in_ok-column.field-0.column c.loop-number.number c.loop-number.invariant.left
      c.in_ok-column.ensures.column c.in-Ok.ensures.items c.loop-number.invariant.columns;
}
