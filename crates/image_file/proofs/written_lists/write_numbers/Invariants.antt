use Rattle.std.proofs.Common.{take}
use Rattle.std.specs.Prelude.{flat_map}
use Rattle.ssd_formats.specs.Fields.{bytes_of_signed}
use Rattle.ssd_io.specs.Writes.{Wrote}
use Rattle.image_file.proofs.written_lists.write_numbers.Given as goal

abbrev pub invariant-loop-number : goal.invariant-loop-number
invariant-loop-number g l =
    Wrote g.O.Sink.written g.O.Sink.faults l.initial.output l.output (flat_map bytes_of_signed (take l.number-index l.numbers))
