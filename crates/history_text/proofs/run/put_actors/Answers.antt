use Rattle.history_text.proofs.Chains.{prints_front}
use Rattle.std.proofs.Common.{◌∙◌}
use Rattle.history_text.proofs.Chains.{piece_more, piece_stopped}
use Rattle.history_text.proofs.TextPieces.{actors_by_pieces}
use Rattle.history_text.proofs.run.put_actors.Goals as goal

pub returns-in_err-put_actor : goal.returns-in_err-put_actor
returns-in_err-put_actor g c = prints_front _ c.from_residual.ensures.0 (piece_stopped actors_by_pieces c.args.replies.now c.loop-actor.actor c.index-replies-actor.result c.as_slice.result.now c.loop-actor-test.true (c.as_slice.ensures ∙ c.index-replies-actor.is) c.loop-actor.invariant c.in_err-put_actor.ensures.err)

pub loop-actor-preserved : goal.loop-actor-preserved
loop-actor-preserved g c = piece_more actors_by_pieces c.args.replies.now c.loop-actor.actor c.index-replies-actor.result c.as_slice.result.now c.loop-actor-test.true (c.as_slice.ensures ∙ c.index-replies-actor.is) c.loop-actor.invariant c.in_ok-put_actor.ensures.ok
