use Rattle.history_text.proofs.Chains.{prints_front}
use Rattle.std.proofs.Common.{◌∙◌}
use Rattle.history_text.proofs.Chains.{piece_more, piece_stopped}
use Rattle.history_text.proofs.TextPieces.{histories_by_pieces}
use Rattle.history_text.proofs.run.put_histories.Goals as goal

pub returns-in_err-put_history : goal.returns-in_err-put_history
returns-in_err-put_history g c = prints_front _ c.from_residual.ensures.0 (piece_stopped histories_by_pieces c.args.histories.now c.loop-channel.channel c.index-histories-channel.result c.as_slice.result.now c.loop-channel-test.true (c.as_slice.ensures ∙ c.index-histories-channel.is) c.loop-channel.invariant c.in_err-put_history.ensures.err)

pub loop-channel-preserved : goal.loop-channel-preserved
loop-channel-preserved g c = piece_more histories_by_pieces c.args.histories.now c.loop-channel.channel c.index-histories-channel.result c.as_slice.result.now c.loop-channel-test.true (c.as_slice.ensures ∙ c.index-histories-channel.is) c.loop-channel.invariant c.in_ok-put_history.ensures.ok
