use Rattle.std.proofs.Common.{map}
use Rattle.std.specs.Prelude.{flat_map}
use Rattle.ssd_formats.specs.ImageContents.{pages_at}
use Rattle.ssd_io.proofs.WriteSteps.{fails_early, writes_then, wrote}
use Rattle.contents_file.specs.BlockParts.{count_bytes, front_bytes}
use Rattle.contents_file.specs.DiesCopied.{cells_told}
use Rattle.contents_file.proofs.block.write_front.Goals as goal

pub returns-in_err-write_base : goal.returns-in_err-write_base
unfolding front_bytes
returns-in_err-write_base g c =
    fails_early (flat_map count_bytes (map (pages_at c.args.sb) (cells_told (map g.D.Die.state c.args.dies.now)))) _ c.from_residual.ensures.0 c.in_err-write_base.ensures

pub returns : goal.returns
unfolding front_bytes
returns g c =
    writes_then _ (wrote c.in_ok-write_base.ensures) c.write_counts.ensures
