-- With row i there is one more row to look at.
use Rattle.std.proofs.Common.{◌≡◌, ℕ, ◌+◌, ◌-◌, ◌<◌, Bool, ap, sym, ◌∙◌, arith, pos}
use Rattle.std.specs.Prelude.{◌||◌}
use Rattle.std.specs.List.{list_any, range_with_len}
use Rattle.std.specs.Ordering.{int_eq}
use Rattle.ssd_geo.specs.BaseMatrix.{BaseMatrix, has_middle_before, parity_entry}
use Rattle.qc_matrix.specs.Entries.{matrix_of}
use Rattle.qc_matrix.proofs.Find.{list_any-more}
use Rattle.qc_matrix.proofs.entries.Entries.has_middle_until.Goals as goal

middle_more : (m : BaseMatrix) (i : ℕ) → 0 < i → has_middle_before m (i + 1) ≡ (has_middle_before m i || int_eq (parity_entry m i) (pos 0))
middle_more m i h =
    let test : ℕ → Bool = λ t. int_eq (parity_entry m t) (pos 0) in
    let more : i + 1 - 1 ≡ (i - 1) + 1 = omega arith in
    let last : 1 + (i - 1) ≡ i = omega arith in
    ap (λ (n : ℕ). list_any test (range_with_len 1 n)) more ∙ list_any-more test 1 (i - 1)
    ∙ ap (λ (t : ℕ). list_any test (range_with_len 1 (i - 1)) || test t) last

pub returns-then-middle : goal.returns-then-middle
returns-then-middle c =
    let m : BaseMatrix = matrix_of c.args.self.now in
    c.if-middle.true
    ∙ sym (middle_more m c.args.i (omega arith)
    ∙ ap (λ (b : Bool). b || int_eq (parity_entry m c.args.i) (pos 0)) (sym c.requires.before ∙ c.if-middle.true))

pub returns-else-middle : goal.returns-else-middle
returns-else-middle c =
    let m : BaseMatrix = matrix_of c.args.self.now in
    c.has_shift_zero.ensures
    ∙ sym (middle_more m c.args.i (omega arith)
    ∙ ap (λ (b : Bool). b || int_eq (parity_entry m c.args.i) (pos 0)) (sym c.requires.before ∙ c.if-middle.false))
