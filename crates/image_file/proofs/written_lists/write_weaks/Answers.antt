use Rattle.ssd_formats.specs.ImageHead.{weak_bytes}
use Rattle.ssd_io.proofs.WriteSteps.{piece_fails}
use Rattle.image_file.proofs.written_lists.write_weaks.Goals as goal

pub returns-in_err-write_weak : goal.returns-in_err-write_weak
returns-in_err-write_weak g c =
    piece_fails weak_bytes c.args.weak.now c.loop-block.block-index _ _ c.from_residual.ensures.0 c.loop-block-test.true c.loop-block.invariant c.in_err-write_weak.ensures
