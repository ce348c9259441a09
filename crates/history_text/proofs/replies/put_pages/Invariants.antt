use Rattle.std.proofs.Common.{drop}
use Rattle.history_text.proofs.Chains.{Midway}
use Rattle.history_text.proofs.TextPieces.{pages_from}
use Rattle.history_text.proofs.replies.put_pages.Given as goal

abbrev pub invariant-loop-page : goal.invariant-loop-page
invariant-loop-page g l =
    Midway g.O.Sink.written g.O.Sink.faults l.initial.output l.output l.initial.line l.line (pages_from l.page-index (drop l.page-index l.pages)) (pages_from 0 l.pages)
