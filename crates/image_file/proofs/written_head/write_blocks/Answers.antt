use Rattle.image_file.specs.HeadBytes.{bad_list_bytes, block_bytes}
use Rattle.ssd_io.proofs.WriteSteps.{fails_early, writes_then, wrote}
use Rattle.image_file.proofs.written_head.write_blocks.Goals as goal

pub returns-in_err-write_weak_of : goal.returns-in_err-write_weak_of
unfolding block_bytes
returns-in_err-write_weak_of g c =
    fails_early (bad_list_bytes c.args.head.now.bad) _ c.from_residual.ensures.0 c.in_err-write_weak_of.ensures

pub returns : goal.returns
unfolding block_bytes
returns g c =
    writes_then _ (wrote c.in_ok-write_weak_of.ensures) c.write_bad_of.ensures
