use Rattle.std.proofs.Common.{◌≡◌, ℕ, ◌<◌, ◌/◌, ◌%◌, true}
use Rattle.ssd_geo.specs.BaseMatrix.{entry_at, is_entry_in_range}
use Rattle.qc_matrix.specs.Entries.{matrix_of}
use Rattle.qc_matrix.proofs.entries.Entries.range_fault.Given as goal

-- the entries so far are in range
abbrev pub invariant-loop-k : goal.invariant-loop-k
invariant-loop-k l = (j : ℕ) → j < l.k → is_entry_in_range l.self.z (entry_at (matrix_of l.self) (j / l.self.nb) (j % l.self.nb)) ≡ true
