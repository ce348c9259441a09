-- What are the rounds and collects of a caller that is alone on its channel? They are those of calls that are served one
-- after the other. Each law is the contract of a function without a body.
use Rattle.std.specs.Prelude.{ℕ, ◌≡◌, List, [], None, Ok}
use Rattle.chan_calls.specs.Caller.{CallerView}
use Rattle.ssd_geo.specs.Coding.{coding_of}
use Rattle.ssd_geo.specs.declared.entry.Entry.{Entry}
use Rattle.ssd_geo.specs.declared.tag.Tag.{Tag}
use Rattle.ssd_histories.specs.History.{open_looks}
use Rattle.ssd_histories.specs.Lawful.{IsLawful}
use Rattle.ssd_histories.specs.PastPages.{ladder_of}
use Rattle.ssd_histories.specs.SerialCalls.{RoundEnd, SerialCollect, SerialRound, SerialWrite, erased, faulted, left, retired}
use Rattle.ssd_histories.specs.Start.{Start}
use Rattle.collector.specs.Collects.{MakesCollectFor}
use Rattle.collector.specs.Rounds.{MakesRoundFor}
use Rattle.collector.specs.Writes.{MakesWriteFor}
use Rattle.collector.specs.declared.replies.CollectReply.{CollectReply}
use Rattle.collector.specs.declared.replies.RoundReply.{RoundReply}
use Rattle.collector.specs.declared.replies.WriteReply.{WriteReply}
use Rattle.collector.specs.declared.replies.RoundReply.TheVariants.{DieFault, Erased, Left, Retired}

-- how a round with this reply ended
abbrev pub end_of : RoundReply → RoundEnd
end_of (Erased sb) = erased
end_of (Retired sb) = retired
end_of (DieFault die) = faulted
end_of Left = left

-- a round led from one past to another, and left no look open
pub record IsRoundAlone (start : Start) (contents : List (Tag × List ℕ)) (tag : Tag) (before after : List Entry)
    (reply : RoundReply) : Type 0 where
  pub is_round : SerialRound (ladder_of (coding_of start.base) start contents) start.base tag before after (end_of reply)
  pub none_open : open_looks after ≡ []

-- a round of a caller that is alone, in a lawful past and upon one without an open look
abbrev pub RoundsAloneAreRounds : Type 0
RoundsAloneAreRounds =
    (start : Start) (contents : List (Tag × List ℕ)) (caller : CallerView) (tag : Tag) (before after : List Entry)
    (reply : RoundReply) →
    caller.number ≡ None → IsLawful start contents after → open_looks before ≡ [] →
    MakesRoundFor start contents caller tag before after (Ok reply) → IsRoundAlone start contents tag before after reply

-- a collect led from one past to another, and left no look open
pub record IsCollectAlone (start : Start) (contents : List (Tag × List ℕ)) (tag : Tag) (before after : List Entry)
    (reply : CollectReply) : Type 0 where
  pub is_collect : SerialCollect (ladder_of (coding_of start.base) start contents) start.base tag before after
  pub none_open : open_looks after ≡ []

-- a collect of a caller that is alone
abbrev pub CollectsAloneAreCollects : Type 0
CollectsAloneAreCollects =
    (start : Start) (contents : List (Tag × List ℕ)) (caller : CallerView) (tag : Tag) (before after : List Entry)
    (reply : CollectReply) →
    caller.number ≡ None → IsLawful start contents after → open_looks before ≡ [] →
    MakesCollectFor start contents caller tag before after (Ok reply) → IsCollectAlone start contents tag before after reply

-- a write of a row led from one past to another, and left no look open
pub record IsWriteAlone (start : Start) (contents : List (Tag × List ℕ)) (tag : Tag) (row : ℕ) (before after : List Entry)
    : Type 0 where
  pub is_write : SerialWrite (ladder_of (coding_of start.base) start contents) start.base tag row before after
  pub none_open : open_looks after ≡ []

-- a write of a caller that is alone
abbrev pub WritesAloneAreWrites : Type 0
WritesAloneAreWrites =
    (start : Start) (contents : List (Tag × List ℕ)) (caller : CallerView) (tag : Tag) (row : ℕ) (before after : List Entry)
    (reply : WriteReply) →
    caller.number ≡ None → IsLawful start contents after → open_looks before ≡ [] →
    MakesWriteFor start contents caller tag row before after (Ok reply) →
    IsWriteAlone start contents tag row before after
