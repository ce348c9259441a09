use Rattle.std.proofs.Common.{◌≡◌, ℕ, ◌<◌, ◌+◌, ◌-◌, ◌/◌, ◌%◌, true}
use Rattle.std.specs.Ordering.{int_eq}
use Rattle.ssd_geo.specs.BaseMatrix.{entry_at, diagonal_entry}
use Rattle.qc_matrix.specs.Entries.{matrix_of}
use Rattle.qc_matrix.proofs.entries.Entries.diagonal_fault.Given as goal

-- the entries so far are those of the dual diagonal
abbrev pub invariant-loop-k : goal.invariant-loop-k
invariant-loop-k l = (j : ℕ) → j < l.k →
    int_eq (entry_at (matrix_of l.self) (j / (l.self.mb - 1)) (l.self.nb - l.self.mb + 1 + j % (l.self.mb - 1))) (diagonal_entry (j / (l.self.mb - 1)) (1 + j % (l.self.mb - 1))) ≡ true
