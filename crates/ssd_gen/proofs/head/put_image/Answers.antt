use Rattle.std.proofs.Common.{◌≡◌, ◌++◌, ℕ, ap, sym, ◌∙◌}
use Rattle.ssd_formats.specs.GeneratedWork.{generated_head}
use Rattle.ssd_formats.specs.ImageHead.{first_head_bytes}
use Rattle.ssd_gen.specs.HeadParts.{head_end, head_start, matrix_bytes}
use Rattle.ssd_gen.proofs.WorkParts.{head_is}
use Rattle.ssd_io.proofs.WriteSteps.{fails_early, fails_in, writes_is, writes_then, wrote}
use Rattle.ssd_gen.proofs.head.put_image.Goals as goal

-- the parts, with the words of a generator that begins at the number
parts_from : (number state : ℕ) → state ≡ number → first_head_bytes (generated_head number) ≡ head_start number ++ (matrix_bytes state ++ head_end)
parts_from number state is = head_is number ∙ ap (λ (n : ℕ). head_start number ++ (matrix_bytes n ++ head_end)) (sym is)

pub returns-in_err-put_start-clause-image : goal.returns-in_err-put_start-clause-image
returns-in_err-put_start-clause-image g c =
    writes_is _ (head_is c.args.number) (fails_early (matrix_bytes c.args.number ++ head_end) _ c.from_residual.ensures.0 c.in_err-put_start.ensures)

pub returns-in_err-put_matrix-clause-image : goal.returns-in_err-put_matrix-clause-image
returns-in_err-put_matrix-clause-image g c =
    fails_in head_end _ _ (parts_from c.args.number c.args.noise.now c.requires) c.from_residual-in_err-put_matrix.ensures.0 (wrote c.in_ok-put_start.ensures) c.in_err-put_matrix.ensures.matrix

pub returns-clause-image : goal.returns-clause-image
returns-clause-image g c =
    writes_is _ (parts_from c.args.number c.args.noise.now c.requires) (writes_then _ (wrote c.in_ok-put_start.ensures) (writes_then _ (wrote c.in_ok-put_matrix.ensures.matrix) c.put_end.ensures))
