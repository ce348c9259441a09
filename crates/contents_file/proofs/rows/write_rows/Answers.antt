use Rattle.ssd_formats.specs.ImageContents.{row_bytes}
use Rattle.ssd_io.proofs.WriteSteps.{piece_fails}
use Rattle.contents_file.proofs.rows.write_rows.Goals as goal

pub returns-in_err-write_row : goal.returns-in_err-write_row
returns-in_err-write_row g c =
    piece_fails row_bytes c.args.rows.now c.loop-row.row-index _ _ c.from_residual.ensures.0 c.loop-row-test.true c.loop-row.invariant c.in_err-write_row.ensures
