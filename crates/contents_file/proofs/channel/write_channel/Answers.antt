use Rattle.std.proofs.Common.{◌<◌, length, ap, sym, arith}
use Rattle.std.specs.Prelude.{flat_map}
use Rattle.ssd_formats.specs.ImageContents.{channel_bytes, row_bytes}
use Rattle.ssd_io.proofs.WriteSteps.{writes_is, wrote}
use Rattle.contents_file.proofs.BlockBytes.{rows_some}
use Rattle.contents_file.proofs.PutSteps.{both_wrote, first_stops, last_fails, put_wrote, saves_all}
use Rattle.contents_file.proofs.channel.write_channel.Goals as goal

pub returns-in-Err-clause-saves : goal.returns-in-Err-clause-saves
unfolding channel_bytes
returns-in-Err-clause-saves g c =
    let some : 0 < length c.args.base.now.rows = omega (arith, c.requires.rows, c.args.base.now.shape.within.rows_low) in
    first_stops c.in-Err.stop (flat_map row_bytes c.args.base.now.rows) (rows_some c.args.base.now.rows some) c.in-Err.ensures.puts

pub returns-in-Ok-write_rows-clause-saves : goal.returns-in-Ok-write_rows-clause-saves
unfolding channel_bytes
returns-in-Ok-write_rows-clause-saves g c =
    saves_all (both_wrote (put_wrote c.in-Ok.ensures.puts) (wrote (writes_is (flat_map row_bytes c.args.base.now.rows) (ap (flat_map row_bytes) (sym c.as_slice.ensures)) c.in-Ok-write_rows.ensures)))

pub returns-in-Err-write_rows-clause-saves : goal.returns-in-Err-write_rows-clause-saves
unfolding channel_bytes
returns-in-Err-write_rows-clause-saves g c =
    last_fails (put_wrote c.in-Ok.ensures.puts) (writes_is (flat_map row_bytes c.args.base.now.rows) (ap (flat_map row_bytes) (sym c.as_slice.ensures)) c.in-Err-write_rows.ensures)
