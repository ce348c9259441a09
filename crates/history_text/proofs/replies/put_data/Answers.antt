use Rattle.history_text.proofs.Chains.{prints_then, prints_front}
use Rattle.std.proofs.Common.{[], ◌∷◌, decimal, codes}
use Rattle.ssd_formats.specs.Numbers.{hex_of_bytes}
use Rattle.history_text.proofs.Chains.{stops_then, stops_early}
use Rattle.history_text.proofs.TextPieces.{stops_last, prints_last}
use Rattle.history_text.proofs.replies.put_data.Goals as goal

pub returns-in_err-put_number : goal.returns-in_err-put_number
returns-in_err-put_number g c = prints_front _ c.from_residual.ensures.0 (stops_last (decimal c.args.call) (codes "data" ∷ decimal c.args.rung ∷ []) (hex_of_bytes c.args.bytes.now ∷ []) (stops_early _ c.in_err-put_number.ensures.err))

pub returns-in_err-put_words : goal.returns-in_err-put_words
returns-in_err-put_words g c = prints_front _ c.from_residual-in_err-put_words.ensures.0 (stops_last (decimal c.args.call) (codes "data" ∷ decimal c.args.rung ∷ []) (hex_of_bytes c.args.bytes.now ∷ []) (stops_then c.in_ok-put_number.ensures.ok (stops_early _ c.in_err-put_words.ensures.err)))

pub returns : goal.returns
returns g c = prints_last (decimal c.args.call) (codes "data" ∷ decimal c.args.rung ∷ []) (hex_of_bytes c.args.bytes.now ∷ []) (prints_then c.in_ok-put_number.ensures.ok (prints_then c.in_ok-put_words.ensures.ok c.put_hex_end.ensures))
