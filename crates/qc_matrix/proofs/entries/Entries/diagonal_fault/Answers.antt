-- The first entry that differs is found by its place in the parity columns after the first.
use Rattle.std.proofs.Common.{ℕ, ◌+◌, ◌-◌, ◌*◌, ◌/◌, ◌%◌, Bool, not, option_map, ap, sym, ◌∙◌, arith, below_more}
use Rattle.std.specs.Ordering.{int_eq}
use Rattle.ssd_geo.specs.BaseMatrix.{entry_at, diagonal, diagonal_entry, MatrixFault}
use Rattle.qc_matrix.specs.Entries.{matrix_of}
use Rattle.qc_matrix.specs.declared.entries.Entries.{Entries}
use Rattle.qc_matrix.proofs.Find.{find-none, find-some}
use Rattle.qc_matrix.proofs.entries.Entries.diagonal_fault.Goals as goal

differs : Entries → ℕ → Bool
differs e k =
    not (int_eq (entry_at (matrix_of e) (k / (e.mb - 1)) (e.nb - e.mb + 1 + k % (e.mb - 1))) (diagonal_entry (k / (e.mb - 1)) (1 + k % (e.mb - 1))))

fault_at : Entries → ℕ → MatrixFault
fault_at e k = diagonal (k / (e.mb - 1)) (e.nb - e.mb + 1 + k % (e.mb - 1))

pub returns-then-not-is_diagonal : goal.returns-then-not-is_diagonal
unfolding differs fault_at
returns-then-not-is_diagonal c =
    ap (option_map (fault_at c.args.self.now))
    (sym
    (find-some (differs c.args.self.now) 0 (c.args.self.now.mb * (c.args.self.now.mb - 1)) c.loop-k.k (omega arith) (omega arith)
    (λ j _ h. ap not (c.loop-k.invariant j h))
    (ap not (sym c.is_diagonal.ensures ∙ c.if-not-is_diagonal.true))))

pub loop-k-preserved : goal.loop-k-preserved
loop-k-preserved c = below_more _ _ c.loop-k.invariant (sym c.is_diagonal.ensures ∙ c.if-not-is_diagonal.false)

pub returns : goal.returns
unfolding differs fault_at
returns c =
    ap (option_map (fault_at c.args.self.now))
    (sym (find-none (differs c.args.self.now) 0 (c.args.self.now.mb * (c.args.self.now.mb - 1)) (λ j _ h. ap not (c.loop-k.invariant j (omega arith)))))
