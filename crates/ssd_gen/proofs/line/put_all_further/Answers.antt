use Rattle.std.proofs.Common.{◌∷◌, List, ℕ}
use Rattle.ssd_gen.specs.LineText.{word_text}
use Rattle.ssd_gen.specs.declared.line_word.LineWord.{LineWord}
use Rattle.ssd_io.proofs.WriteSteps.{piece_fails, piece_wrote}
use Rattle.ssd_gen.proofs.line.put_all_further.Goals as goal

abbrev further : LineWord → List ℕ
further word = 32 ∷ word_text word

pub returns-in_err-put_further : goal.returns-in_err-put_further
returns-in_err-put_further g c =
    piece_fails further c.args.words.now c.loop-word.word-index _ _ c.from_residual.ensures.0 c.loop-word-test.true c.loop-word.invariant c.in_err-put_further.ensures

pub loop-word-preserved : goal.loop-word-preserved
loop-word-preserved g c =
    piece_wrote further c.args.words.now c.loop-word.word-index _ c.loop-word-test.true c.loop-word.invariant c.in_ok-put_further.ensures
