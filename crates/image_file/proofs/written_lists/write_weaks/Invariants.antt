use Rattle.std.proofs.Common.{take}
use Rattle.std.specs.Prelude.{flat_map}
use Rattle.ssd_formats.specs.ImageHead.{weak_bytes}
use Rattle.ssd_io.specs.Writes.{Wrote}
use Rattle.image_file.proofs.written_lists.write_weaks.Given as goal

abbrev pub invariant-loop-block : goal.invariant-loop-block
invariant-loop-block g l =
    Wrote g.O.Sink.written g.O.Sink.faults l.initial.output l.output (flat_map weak_bytes (take l.block-index l.weak))
