-- What do refreshes, writes and collects come to where others make their entries between the steps? The steps are those that
-- calls in order ask of the verb, each decided by the past that it found, and the reply is the one that they decide. Each law
-- is the contract of a function without a body.
use Rattle.std.specs.Prelude.{ℕ, ◌/◌, ◌%◌, List, Ok}
use Rattle.chan_calls.specs.Caller.{CallerView}
use Rattle.collector.specs.AloneReplies.{reply_to_collect, reply_to_write}
use Rattle.collector.specs.Collects.{MakesCollectFor}
use Rattle.collector.specs.Writes.{MakesWriteFor}
use Rattle.collector.specs.declared.replies.CollectReply.{CollectReply}
use Rattle.collector.specs.declared.replies.WriteReply.{WriteReply}
use Rattle.refresh.specs.Refreshes.{MakesRefreshFor}
use Rattle.ssd_geo.specs.declared.entry.Entry.{Entry}
use Rattle.ssd_geo.specs.declared.reply.RefreshReply.{RefreshReply}
use Rattle.ssd_geo.specs.declared.tag.Tag.{Tag}
use Rattle.ssd_geo.specs.declared.trace.Content.{Content}
use Rattle.ssd_geo.specs.declared.trace.Verb.{Verb}
use Rattle.ssd_histories.specs.Lawful.{IsLawful}
use Rattle.ssd_histories.specs.Replies.{reply_of_refresh}
use Rattle.ssd_histories.specs.Start.{Start}
use Rattle.calls_among_others.specs.CallsAmong.{IsCallAmong}

-- a refresh
abbrev pub RefreshCallsAmongAreRefreshes : Type 0
RefreshCallsAmongAreRefreshes =
    (start : Start) (contents : List (Tag × List ℕ)) (channels page : ℕ) (caller : CallerView) (tag : Tag) (after : List Entry)
    (reply : RefreshReply) →
    MakesRefreshFor start contents caller tag (page / channels) after (Ok reply) →
    IsCallAmong start contents channels (page % channels) tag (Verb.Refresh page) caller.seen after (reply_of_refresh reply)

-- a write with its rounds. Each pick had a cause lately: where its own step before found that it needed room.
abbrev pub WritesAmongAreWrites : Type 0
WritesAmongAreWrites =
    (start : Start) (contents : List (Tag × List ℕ)) (channels page : ℕ) (content : Content) (caller : CallerView) (tag : Tag)
    (before after : List Entry) (reply : WriteReply) →
    MakesWriteFor start contents caller tag (page / channels) before after (Ok reply) →
    IsCallAmong start contents channels (page % channels) tag (Verb.Write page content) before after (reply_to_write reply)

-- a collect, in a lawful past. A note that ends it and tells of live pages comes after a stay, or there was lately nothing to
-- copy: where a step found no live page or no victim, or where another call erased the victim that this one had.
abbrev pub CollectsAmongAreCollects : Type 0
CollectsAmongAreCollects =
    (start : Start) (contents : List (Tag × List ℕ)) (channels channel : ℕ) (caller : CallerView) (tag : Tag)
    (before after : List Entry) (reply : CollectReply) →
    IsLawful start contents after → MakesCollectFor start contents caller tag before after (Ok reply) →
    IsCallAmong start contents channels channel tag (Verb.Collect channel) before after (reply_to_collect reply)
