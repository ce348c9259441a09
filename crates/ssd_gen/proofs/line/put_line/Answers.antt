use Rattle.std.proofs.Common.{◌∷◌, ◌++◌, []}
use Rattle.ssd_gen.specs.LineText.{further_text, word_text}
use Rattle.ssd_gen.proofs.LineParts.{line_parts}
use Rattle.ssd_io.proofs.WriteSteps.{fails_early, fails_in, writes_then, wrote}
use Rattle.ssd_gen.proofs.line.put_line.Goals as goal

pub returns-in_err-put_word : goal.returns-in_err-put_word
returns-in_err-put_word g c =
    rw (line_parts (word_text c.args.first) c.args.others.now) (fails_early (further_text c.args.others.now ++ 10 ∷ []) _ c.from_residual.ensures.0 c.in_err-put_word.ensures)

pub returns-in_err-put_all_further : goal.returns-in_err-put_all_further
returns-in_err-put_all_further g c =
    fails_in (10 ∷ []) _ _ (line_parts (word_text c.args.first) c.args.others.now) c.from_residual-in_err-put_all_further.ensures.0 (wrote c.in_ok-put_word.ensures) c.in_err-put_all_further.ensures

pub returns : goal.returns
returns g c =
    rw (line_parts (word_text c.args.first) c.args.others.now) (writes_then _ (wrote c.in_ok-put_word.ensures) (writes_then _ (wrote c.in_ok-put_all_further.ensures) c.put.ensures))
