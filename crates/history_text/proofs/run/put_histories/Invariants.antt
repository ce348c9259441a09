use Rattle.std.proofs.Common.{drop}
use Rattle.history_text.proofs.Chains.{Midway}
use Rattle.history_text.proofs.TextPieces.{histories_from}
use Rattle.history_text.proofs.run.put_histories.Given as goal

abbrev pub invariant-loop-channel : goal.invariant-loop-channel
invariant-loop-channel g l =
    Midway g.O.Sink.written g.O.Sink.faults l.initial.output l.output l.initial.line l.line (histories_from l.channel (drop l.channel l.histories)) (histories_from 0 l.histories)
