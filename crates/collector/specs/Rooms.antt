-- Do the entries of a caller that is alone on its channel find room? Each entry of its writes and collects did, also of one that
-- stopped: the look for a live page, which asks for a look's room, comes right before an erase. Each law is the contract of a
-- function without a body.
use Rattle.std.specs.Prelude.{ℕ, ◌≡◌, true, List, None, Result}
use Rattle.chan_calls.specs.Caller.{CallerView}
use Rattle.ssd_geo.specs.declared.entry.Entry.{Entry}
use Rattle.ssd_geo.specs.declared.stop.StepStop.{StepStop}
use Rattle.ssd_geo.specs.declared.tag.Tag.{Tag}
use Rattle.ssd_histories.specs.HistoryRoom.{found_room}
use Rattle.ssd_histories.specs.Start.{Start}
use Rattle.collector.specs.Collects.{MakesCollectFor}
use Rattle.collector.specs.Writes.{MakesWriteFor}
use Rattle.collector.specs.declared.replies.CollectReply.{CollectReply}
use Rattle.collector.specs.declared.replies.WriteReply.{WriteReply}

abbrev pub WritesAloneFindRoom : Type 0
WritesAloneFindRoom =
    (start : Start) (contents : List (Tag × List ℕ)) (caller : CallerView) (tag : Tag) (row : ℕ) (before after : List Entry)
    (result : Result WriteReply StepStop) →
    caller.number ≡ None → caller.limit ≡ start.limit →
    MakesWriteFor start contents caller tag row before after result →
    found_room start.limit before ≡ true → found_room start.limit after ≡ true

abbrev pub CollectsAloneFindRoom : Type 0
CollectsAloneFindRoom =
    (start : Start) (contents : List (Tag × List ℕ)) (caller : CallerView) (tag : Tag) (before after : List Entry)
    (result : Result CollectReply StepStop) →
    caller.number ≡ None → caller.limit ≡ start.limit →
    MakesCollectFor start contents caller tag before after result →
    found_room start.limit before ≡ true → found_room start.limit after ≡ true
