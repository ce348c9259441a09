-- The first row that breaks the form is found among all rows.
use Rattle.std.proofs.Common.{option_map, ap, sym, ◌∙◌, arith, below_more}
use Rattle.ssd_geo.specs.BaseMatrix.{breaks_parity_column, parity_column}
use Rattle.qc_matrix.specs.Entries.{matrix_of}
use Rattle.qc_matrix.proofs.Find.{find-none, find-some}
use Rattle.qc_matrix.proofs.entries.Entries.column_fault.Goals as goal

pub returns-then-breaks_parity_column : goal.returns-then-breaks_parity_column
returns-then-breaks_parity_column c =
    ap (option_map parity_column)
    (sym
    (find-some (breaks_parity_column (matrix_of c.args.self.now)) 0 c.args.self.now.mb c.loop-i.i (omega arith) (omega arith)
    (λ j _ h. c.loop-i.invariant.kept j h)
    (sym c.breaks_parity_column.ensures ∙ c.if-breaks_parity_column.true)))

pub loop-i-preserved : goal.loop-i-preserved
loop-i-preserved c = record {
  kept = below_more _ _ c.loop-i.invariant.kept (sym c.breaks_parity_column.ensures ∙ c.if-breaks_parity_column.false);
  middle = c.has_middle_until-middle.ensures;
}

pub returns : goal.returns
returns c =
    ap (option_map parity_column)
    (sym (find-none (breaks_parity_column (matrix_of c.args.self.now)) 0 c.args.self.now.mb (λ j _ h. c.loop-i.invariant.kept j (omega arith))))
