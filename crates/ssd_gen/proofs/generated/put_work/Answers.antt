use Rattle.std.proofs.Common.{◌≡◌, ◌++◌, ap, sym, ◌∙◌}
use Rattle.ssd_formats.specs.GeneratedWork.{generated_head, generated_trace}
use Rattle.ssd_formats.specs.ImageHead.{first_head_bytes}
use Rattle.ssd_gen.specs.TraceParts.{trace_text}
use Rattle.ssd_gen.proofs.WorkParts.{trace_is}
use Rattle.ssd_io.proofs.WriteSteps.{fails_early, writes_is, writes_then, wrote}
use Rattle.ssd_gen.proofs.generated.put_work.Goals as goal

pub returns-in_err-put_image : goal.returns-in_err-put_image
returns-in_err-put_image g c = fails_early (generated_trace c.args.number) _ c.from_residual.ensures.0 c.in_err-put_image.ensures.image

pub returns : goal.returns
returns g c =
    let number = c.args.number in
    let image = first_head_bytes (generated_head number) in
    let same : trace_text c.put_image.new.noise ≡ generated_trace number = ap trace_text c.in_ok-put_image.ensures.noise ∙ trace_is number in
    writes_is _ (ap (λ text. image ++ text) (sym same)) (writes_then _ (wrote c.in_ok-put_image.ensures.image) c.put_trace.ensures)
