use Rattle.history_text.proofs.Chains.{prints_front}
use Rattle.std.proofs.Common.{refl}
use Rattle.history_text.proofs.Chains.{piece_more, piece_stopped}
use Rattle.history_text.proofs.TextPieces.{pages_by_pieces}
use Rattle.history_text.proofs.replies.put_pages.Goals as goal

pub returns-in_err-put_page : goal.returns-in_err-put_page
returns-in_err-put_page g c = prints_front _ c.from_residual.ensures.0 (piece_stopped pages_by_pieces c.args.pages.now c.loop-page.page-index _ _ c.loop-page-test.true refl c.loop-page.invariant c.in_err-put_page.ensures.err)

pub loop-page-preserved : goal.loop-page-preserved
loop-page-preserved g c = piece_more pages_by_pieces c.args.pages.now c.loop-page.page-index _ _ c.loop-page-test.true refl c.loop-page.invariant c.in_ok-put_page.ensures.ok
