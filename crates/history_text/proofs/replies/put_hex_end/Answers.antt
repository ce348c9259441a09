use Rattle.history_text.proofs.Chains.{prints_then, prints_front}
use Rattle.ssd_formats.specs.Numbers.{hex_of_bytes}
use Rattle.history_text.proofs.Chains.{stops_then, stops_early}
use Rattle.history_text.proofs.TextPieces.{stops_same, prints_same, one_word}
use Rattle.history_text.proofs.replies.put_hex_end.Goals as goal

pub returns-in_err-put : goal.returns-in_err-put
returns-in_err-put g c = prints_front _ c.from_residual.ensures.0 (stops_same (one_word (hex_of_bytes c.args.bytes.now)) (stops_early _ c.in_err-put.ensures.err))

pub returns-in_err-put_hex : goal.returns-in_err-put_hex
returns-in_err-put_hex g c = prints_front _ c.from_residual-in_err-put_hex.ensures.0 (stops_same (one_word (hex_of_bytes c.args.bytes.now)) (stops_then c.in_ok-put.ensures.ok (stops_early _ c.in_err-put_hex.ensures.err)))

pub returns : goal.returns
returns g c = prints_same (one_word (hex_of_bytes c.args.bytes.now)) (prints_then c.in_ok-put.ensures.ok (prints_then c.in_ok-put_hex.ensures.ok c.put-2.ensures))
