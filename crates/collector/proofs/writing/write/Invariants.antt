-- The turns so far left the write to go on, and each added an entry.
use Rattle.std.proofs.Common.{◌-◌, length}
use Rattle.chan_calls.specs.Copied.{CopiesAloneAreCopies}
use Rattle.collector.proofs.WriteSteps.{HasWritten}
use Rattle.collector.proofs.writing.write.Given as goal

abbrev pub invariant-turns : goal.invariant-turns
invariant-turns g l = record {
  written : HasWritten l.fn.worker l.worker (g.S.Steps.view l.fn.steps) (g.S.Steps.view l.steps) (g.S.Steps.stands l.fn.steps)
      (g.S.Steps.stands l.steps) l.tag l.row l.bytes;
  copies_are : CopiesAloneAreCopies;
}

abbrev pub decreases-turns : goal.decreases-turns
decreases-turns g l = (g.S.Steps.view l.steps).limit - length (g.S.Steps.view l.steps).seen
