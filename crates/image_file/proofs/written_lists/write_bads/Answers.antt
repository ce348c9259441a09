use Rattle.ssd_formats.specs.ImageHead.{bad_bytes}
use Rattle.ssd_io.proofs.WriteSteps.{piece_fails}
use Rattle.image_file.proofs.written_lists.write_bads.Goals as goal

pub returns-in_err-write_bad : goal.returns-in_err-write_bad
returns-in_err-write_bad g c =
    piece_fails bad_bytes c.args.bad.now c.loop-block.block-index _ _ c.from_residual.ensures.0 c.loop-block-test.true c.loop-block.invariant c.in_err-write_bad.ensures
