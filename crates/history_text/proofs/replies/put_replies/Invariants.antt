use Rattle.std.proofs.Common.{drop}
use Rattle.history_text.proofs.Chains.{Midway}
use Rattle.history_text.proofs.TextPieces.{replies_from}
use Rattle.history_text.proofs.replies.put_replies.Given as goal

abbrev pub invariant-loop-call : goal.invariant-loop-call
invariant-loop-call g l =
    Midway g.O.Sink.written g.O.Sink.faults l.initial.output l.output l.initial.line l.line (replies_from l.call (drop l.call l.replies)) (replies_from 0 l.replies)
