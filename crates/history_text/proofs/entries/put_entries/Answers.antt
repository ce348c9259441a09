use Rattle.history_text.proofs.Chains.{prints_front}
use Rattle.std.proofs.Common.{refl}
use Rattle.history_text.proofs.Chains.{piece_more, piece_stopped}
use Rattle.history_text.proofs.TextPieces.{entries_by_pieces}
use Rattle.history_text.proofs.entries.put_entries.Goals as goal

pub returns-in_err-put_entry : goal.returns-in_err-put_entry
returns-in_err-put_entry g c = prints_front _ c.from_residual.ensures.0 (piece_stopped entries_by_pieces c.args.entries.now c.loop-at.at _ _ c.loop-at-test.true refl c.loop-at.invariant c.in_err-put_entry.ensures.err)

pub loop-at-preserved : goal.loop-at-preserved
loop-at-preserved g c = piece_more entries_by_pieces c.args.entries.now c.loop-at.at _ _ c.loop-at-test.true refl c.loop-at.invariant c.in_ok-put_entry.ensures.ok
