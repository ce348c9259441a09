use Rattle.std.proofs.Common.{take}
use Rattle.ssd_gen.specs.LineText.{further_text}
use Rattle.ssd_io.specs.Writes.{Wrote}
use Rattle.ssd_gen.proofs.line.put_all_further.Given as goal

abbrev pub invariant-loop-word : goal.invariant-loop-word
invariant-loop-word g l =
    Wrote g.O.Sink.written g.O.Sink.faults l.initial.output l.output (further_text (take l.word-index l.words))
