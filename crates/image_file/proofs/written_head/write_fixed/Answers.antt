use Rattle.image_file.specs.HeadBytes.{fixed_bytes, law_bytes}
use Rattle.ssd_io.proofs.WriteSteps.{fails_early, writes_then, wrote}
use Rattle.image_file.proofs.written_head.write_fixed.Goals as goal

pub returns-in_err-write_sizes : goal.returns-in_err-write_sizes
unfolding fixed_bytes
returns-in_err-write_sizes g c =
    let head = c.args.head.now in
    fails_early (law_bytes head.law head.step head.session) _ c.from_residual.ensures.0 c.in_err-write_sizes.ensures

pub returns : goal.returns
unfolding fixed_bytes
returns g c =
    writes_then _ (wrote c.in_ok-write_sizes.ensures) c.write_law.ensures
