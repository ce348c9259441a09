-- A ladder that gives a reply has its answer.
use Rattle.std.proofs.Common.{◌≡◌, ℕ, Some, refl}
use Rattle.std.specs.Prelude.{IsTrue}
use Rattle.ssd_histories.specs.Replies.{reply_of_ladder}
use Rattle.ssd_geo.specs.Ladder.{LadderState, asks, has_answer, recovered, uncorrectable}
use Rattle.ssd_geo.specs.declared.reply.Reply.{Reply}

-- a ladder that gives a reply has its answer
pub replies_answered : (bytes : ℕ) (state : LadderState) (reply : Reply) →
    reply_of_ladder bytes state ≡ Some reply → IsTrue (has_answer state)
replies_answered bytes (asks place level) reply is = absurd (cc)
replies_answered bytes (recovered rung word) reply is = refl
replies_answered bytes uncorrectable reply is = refl
