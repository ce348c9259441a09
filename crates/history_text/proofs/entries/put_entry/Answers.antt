use Rattle.std.proofs.Common.{[], ◌∷◌, ◌++◌, map, decimal, sym, ap, ◌∙◌}
use Rattle.ssd_formats.specs.EntryText.{tag_text, kind_words}
use Rattle.history_text.specs.WordText.{word_text, further_words}
use Rattle.history_text.proofs.Chains.{prints_then, prints_front, stops_then, stops_early}
use Rattle.history_text.proofs.TextPieces.{stops_step, prints_step, prints_same}
use Rattle.history_text.proofs.entries.put_entry.Goals as goal

pub returns-in_err-put_number : goal.returns-in_err-put_number
returns-in_err-put_number g c =
    let entry = c.args.entry.now in
    prints_front _ c.from_residual.ensures.0 (stops_step (decimal c.args.at) (tag_text entry.tag) (kind_words entry.kind)
    (stops_early _ c.in_err-put_number.ensures.err))

pub returns-in_err-put_spaced : goal.returns-in_err-put_spaced
returns-in_err-put_spaced g c =
    let entry = c.args.entry.now in
    prints_front _ c.from_residual-in_err-put_spaced.ensures.0
    (stops_step (decimal c.args.at) (tag_text entry.tag) (kind_words entry.kind)
    (stops_then c.in_ok-put_number.ensures.ok (stops_early _ c.in_err-put_spaced.ensures.err)))

pub returns : goal.returns
returns g c =
    let entry = c.args.entry.now in
    let same = ap (map word_text) c.as_slice.ensures ∙ c.kind_words-words.ensures in
    let rest = prints_same (ap (λ words. further_words words ++ 10 ∷ []) (sym same)) c.put_rest.ensures in
    prints_step (decimal c.args.at) (tag_text entry.tag) (kind_words entry.kind)
    (prints_then c.in_ok-put_number.ensures.ok (prints_then c.in_ok-put_spaced.ensures.ok rest))
