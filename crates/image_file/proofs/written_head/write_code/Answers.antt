use Rattle.std.specs.Prelude.{flat_map}
use Rattle.ssd_formats.specs.Fields.{bytes_of_signed}
use Rattle.image_file.specs.HeadBytes.{code_bytes}
use Rattle.ssd_io.proofs.WriteSteps.{fails_early, writes_then, wrote}
use Rattle.image_file.proofs.written_head.write_code.Goals as goal

pub returns-in_err-write_levels : goal.returns-in_err-write_levels
unfolding code_bytes
returns-in_err-write_levels g c =
    fails_early (flat_map bytes_of_signed c.args.head.now.entries) _ c.from_residual.ensures.0 c.in_err-write_levels.ensures

pub returns : goal.returns
unfolding code_bytes
returns g c =
    writes_then _ (wrote c.in_ok-write_levels.ensures) c.write_entries.ensures
