use Rattle.history_text.proofs.Chains.{prints_front}
use Rattle.std.proofs.Common.{refl}
use Rattle.history_text.proofs.Chains.{piece_more, piece_stopped}
use Rattle.history_text.proofs.TextPieces.{counts_by_pieces}
use Rattle.history_text.proofs.summary.put_spaced_counts.Goals as goal

pub returns-in_err-put_spaced : goal.returns-in_err-put_spaced
returns-in_err-put_spaced g c = prints_front _ c.from_residual.ensures.0 (piece_stopped counts_by_pieces c.args.counts.now c.loop-count.count-index _ _ c.loop-count-test.true refl c.loop-count.invariant c.in_err-put_spaced.ensures.err)

pub loop-count-preserved : goal.loop-count-preserved
loop-count-preserved g c = piece_more counts_by_pieces c.args.counts.now c.loop-count.count-index _ _ c.loop-count-test.true refl c.loop-count.invariant c.in_ok-put_spaced.ensures.ok
