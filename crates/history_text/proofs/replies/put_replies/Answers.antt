use Rattle.history_text.proofs.Chains.{prints_front}
use Rattle.history_text.proofs.Chains.{piece_more, piece_stopped}
use Rattle.history_text.proofs.TextPieces.{replies_by_pieces}
use Rattle.history_text.proofs.replies.put_replies.Goals as goal

pub returns-in_err-put_reply : goal.returns-in_err-put_reply
returns-in_err-put_reply g c = prints_front _ c.from_residual.ensures.0 (piece_stopped replies_by_pieces c.args.replies.now c.loop-call.call c.index-replies-call.result c.index-replies-call.result c.loop-call-test.true c.index-replies-call.is c.loop-call.invariant c.in_err-put_reply.ensures.err)

pub loop-call-preserved : goal.loop-call-preserved
loop-call-preserved g c = piece_more replies_by_pieces c.args.replies.now c.loop-call.call c.index-replies-call.result c.index-replies-call.result c.loop-call-test.true c.index-replies-call.is c.loop-call.invariant c.in_ok-put_reply.ensures.ok
