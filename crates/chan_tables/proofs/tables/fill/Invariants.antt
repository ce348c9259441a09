use Rattle.chan_tables.proofs.FilledRows.{IsFilled}
use Rattle.chan_tables.proofs.tables.fill.Given as goal

abbrev pub invariant-loop-row : goal.invariant-loop-row
invariant-loop-row l = IsFilled l.rows l.row l.initial.map l.map
