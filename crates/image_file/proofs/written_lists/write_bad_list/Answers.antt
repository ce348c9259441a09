use Rattle.std.specs.Prelude.{flat_map}
use Rattle.ssd_formats.specs.ImageHead.{bad_bytes}
use Rattle.ssd_io.proofs.WriteSteps.{fails_early, writes_then, wrote}
use Rattle.image_file.proofs.written_lists.write_bad_list.Goals as goal

pub returns-in_err-write_count : goal.returns-in_err-write_count
returns-in_err-write_count g c =
    fails_early (flat_map bad_bytes c.args.bad.now) _ c.from_residual.ensures.0 c.in_err-write_count.ensures

pub returns : goal.returns
returns g c =
    writes_then _ (wrote c.in_ok-write_count.ensures) c.write_bads.ensures
