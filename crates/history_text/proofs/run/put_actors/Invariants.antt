use Rattle.std.proofs.Common.{drop}
use Rattle.history_text.proofs.Chains.{Midway}
use Rattle.history_text.proofs.TextPieces.{actors_from}
use Rattle.history_text.proofs.run.put_actors.Given as goal

abbrev pub invariant-loop-actor : goal.invariant-loop-actor
invariant-loop-actor g l =
    Midway g.O.Sink.written g.O.Sink.faults l.initial.output l.output l.initial.line l.line (actors_from l.actor (drop l.actor l.replies)) (actors_from 0 l.replies)
