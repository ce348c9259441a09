use Rattle.ssd_formats.specs.Fields.{bytes_of_signed}
use Rattle.ssd_io.proofs.WriteSteps.{piece_fails}
use Rattle.image_file.proofs.written_lists.write_numbers.Goals as goal

pub returns-in_err-write_number : goal.returns-in_err-write_number
returns-in_err-write_number g c =
    piece_fails bytes_of_signed c.args.numbers.now c.loop-number.number-index _ _ c.from_residual.ensures.0 c.loop-number-test.true c.loop-number.invariant c.in_err-write_number.ensures
