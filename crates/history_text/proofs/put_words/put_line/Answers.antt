use Rattle.history_text.proofs.Chains.{prints_then, prints_front}
use Rattle.std.proofs.Common.{map}
use Rattle.history_text.specs.WordText.{word_text}
use Rattle.history_text.proofs.Chains.{stops_early}
use Rattle.history_text.proofs.TextPieces.{stops_line, prints_line}
use Rattle.history_text.proofs.put_words.put_line.Goals as goal

pub returns-in_err-put_word : goal.returns-in_err-put_word
returns-in_err-put_word g c = prints_front _ c.from_residual.ensures.0 (stops_line _ (map word_text c.args.others.now) (stops_early _ c.in_err-put_word.ensures.err))

pub returns : goal.returns
returns g c = prints_line _ (map word_text c.args.others.now) (prints_then c.in_ok-put_word.ensures.ok c.put_rest.ensures)
