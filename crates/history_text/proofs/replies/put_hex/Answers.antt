use Rattle.history_text.proofs.Chains.{prints_front}
use Rattle.std.proofs.Common.{refl}
use Rattle.history_text.proofs.Chains.{piece_more, piece_stopped}
use Rattle.history_text.proofs.TextPieces.{hex_by_pieces}
use Rattle.history_text.proofs.replies.put_hex.Goals as goal

pub returns-in_err-put_byte : goal.returns-in_err-put_byte
returns-in_err-put_byte g c = prints_front _ c.from_residual.ensures.0 (piece_stopped hex_by_pieces c.args.bytes.now c.loop-byte.byte-index _ _ c.loop-byte-test.true refl c.loop-byte.invariant c.in_err-put_byte.ensures.err)

pub loop-byte-preserved : goal.loop-byte-preserved
loop-byte-preserved g c = piece_more hex_by_pieces c.args.bytes.now c.loop-byte.byte-index _ _ c.loop-byte-test.true refl c.loop-byte.invariant c.in_ok-put_byte.ensures.ok
