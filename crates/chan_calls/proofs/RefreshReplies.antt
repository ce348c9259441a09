-- What replies of a refresh do its steps decide?
use Rattle.std.proofs.Common.{◌≡◌, Option, None, Some, refl, ap}
use Rattle.std.specs.Prelude.{IsTrue}
use Rattle.ssd_histories.specs.Replies.{refresh_of_ladder}
use Rattle.ssd_geo.specs.Ladder.{LadderState, asks, is_uncorrectable, recovered, uncorrectable}
use Rattle.ssd_geo.specs.declared.reply.RefreshReply.{RefreshReply}

-- the reply of a list whose first step decides it
pub last_reply : (decided : Option RefreshReply) (reply : RefreshReply) → decided ≡ Some reply →
    elim decided as (λ (o : Option RefreshReply). Option RefreshReply)
    [ Some given ↦ Some given | None ↦ None ] ≡ Some reply
last_reply decided reply is =
    ap (λ (o : Option RefreshReply). elim o as (λ (o : Option RefreshReply). Option RefreshReply)
    [ Some given ↦ Some given | None ↦ None ]) is

pub next_reply : (decided rest : Option RefreshReply) (reply : RefreshReply) → decided ≡ Some reply →
    elim decided as (λ (o : Option RefreshReply). Option RefreshReply)
    [ Some given ↦ Some given | None ↦ rest ] ≡ Some reply
next_reply decided rest reply is =
    ap (λ (o : Option RefreshReply). elim o as (λ (o : Option RefreshReply). Option RefreshReply)
    [ Some given ↦ Some given | None ↦ rest ]) is

-- a ladder that can't recover its page says so
pub given_up : (state : LadderState) → IsTrue (is_uncorrectable state) →
    refresh_of_ladder state ≡ Some RefreshReply.Uncorrectable
given_up (asks place level) is = absurd (cc)
given_up (recovered rung word) is = absurd (cc)
given_up uncorrectable is = refl
