use Rattle.std.proofs.Common.{◌≡◌, ℕ, ◌<◌, false}
use Rattle.ssd_geo.specs.BaseMatrix.{breaks_parity_column, has_middle_before}
use Rattle.qc_matrix.specs.Entries.{matrix_of}
use Rattle.qc_matrix.proofs.entries.Entries.column_fault.Given as goal

-- the rows so far keep the form, and it is known whether one of them was the middle row
abbrev pub invariant-loop-i : goal.invariant-loop-i
invariant-loop-i l = record {
  kept : (j : ℕ) → j < l.i → breaks_parity_column (matrix_of l.self) j ≡ false;
  middle : l.middle ≡ has_middle_before (matrix_of l.self) l.i;
}
