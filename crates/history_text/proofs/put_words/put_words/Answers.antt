use Rattle.history_text.proofs.Chains.{prints_front}
use Rattle.std.proofs.Common.{refl}
use Rattle.history_text.proofs.Chains.{piece_more, piece_stopped}
use Rattle.history_text.proofs.TextPieces.{words_by_pieces}
use Rattle.history_text.proofs.put_words.put_words.Goals as goal

pub returns-in_err-put_spaced : goal.returns-in_err-put_spaced
returns-in_err-put_spaced g c = prints_front _ c.from_residual.ensures.0 (piece_stopped words_by_pieces c.args.words.now c.loop-word.word-index _ _ c.loop-word-test.true refl c.loop-word.invariant c.in_err-put_spaced.ensures.err)

pub loop-word-preserved : goal.loop-word-preserved
loop-word-preserved g c = piece_more words_by_pieces c.args.words.now c.loop-word.word-index _ _ c.loop-word-test.true refl c.loop-word.invariant c.in_ok-put_spaced.ensures.ok
