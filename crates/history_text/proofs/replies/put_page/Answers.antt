use Rattle.history_text.proofs.Chains.{prints_then, prints_front}
use Rattle.std.proofs.Common.{[], ◌∷◌, decimal, append_assoc, sym}
use Rattle.ssd_formats.specs.ReplyText.{refresh_text}
use Rattle.history_text.proofs.Chains.{stops_then, stops_early}
use Rattle.history_text.proofs.TextPieces.{stops_same, prints_same}
use Rattle.history_text.proofs.replies.put_page.Goals as goal

pub returns-in_err-put_spaced : goal.returns-in_err-put_spaced
returns-in_err-put_spaced g c = prints_front _ c.from_residual.ensures.0 (stops_same (append_assoc (32 ∷ decimal c.args.page) (61 ∷ []) (refresh_text c.args.reply)) (stops_early _ c.in_err-put_spaced.ensures.err))

pub returns-in_err-put : goal.returns-in_err-put
returns-in_err-put g c = prints_front _ c.from_residual-in_err-put.ensures.0 (stops_same (append_assoc (32 ∷ decimal c.args.page) (61 ∷ []) (refresh_text c.args.reply)) (stops_then c.in_ok-put_spaced.ensures.ok (stops_early _ c.in_err-put.ensures.err)))

pub returns : goal.returns
returns g c = prints_same (append_assoc (32 ∷ decimal c.args.page) (61 ∷ []) (refresh_text c.args.reply)) (prints_then c.in_ok-put_spaced.ensures.ok (prints_then c.in_ok-put.ensures.ok (prints_same (sym c.refresh_word.ensures) c.put_word.ensures)))
