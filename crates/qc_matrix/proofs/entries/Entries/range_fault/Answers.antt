-- The first entry out of range is found by its place in the list.
use Rattle.std.proofs.Common.{ℕ, ◌*◌, ◌/◌, ◌%◌, Bool, not, option_map, ap, sym, ◌∙◌, arith}
use Rattle.ssd_geo.specs.BaseMatrix.{entry_at, entry_range, is_entry_in_range}
use Rattle.qc_matrix.specs.Entries.{matrix_of}
use Rattle.qc_matrix.specs.declared.entries.Entries.{Entries}
use Rattle.qc_matrix.proofs.Find.{find-none, find-some}
use Rattle.qc_matrix.proofs.entries.Entries.range_fault.Goals as goal

out_of_range : Entries → ℕ → Bool
out_of_range e k = not (is_entry_in_range e.z (entry_at (matrix_of e) (k / e.nb) (k % e.nb)))

pub returns-then-not-is_in_range : goal.returns-then-not-is_in_range
unfolding out_of_range
returns-then-not-is_in_range c =
    ap (option_map (λ k. entry_range (k / c.args.self.now.nb) (k % c.args.self.now.nb)))
    (sym
    (find-some (out_of_range c.args.self.now) 0 (c.args.self.now.mb * c.args.self.now.nb) c.loop-k.k (omega arith) (omega arith)
    (λ j _ h. ap not (c.loop-k.invariant j h))
    (ap not (sym c.is_in_range.ensures ∙ c.if-not-is_in_range.true))))

pub returns : goal.returns
unfolding out_of_range
returns c =
    ap (option_map (λ k. entry_range (k / c.args.self.now.nb) (k % c.args.self.now.nb)))
    (sym (find-none (out_of_range c.args.self.now) 0 (c.args.self.now.mb * c.args.self.now.nb) (λ j _ h. ap not (c.loop-k.invariant j (omega arith)))))
