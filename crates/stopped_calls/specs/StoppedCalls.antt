-- Where did a call stop for whose next step the history had no room, while others made their entries? What its actor has seen
-- then has the length that the stop tells, and no room for a step, or for a look where the call's next step may be one. So it
-- is the prefix that shows why a race stopped. Each law is the contract of a function without a body.
use Rattle.std.specs.Prelude.{ℕ, ◌≡◌, ◌/◌, IsTrue, List, length, Err, ⊤}
use Rattle.chan_calls.specs.Caller.{CallerView, HasLookRoom, HasStepRoom}
use Rattle.chan_calls.specs.Stepping.{IsStepped, MakesAge, MakesTrim}
use Rattle.chan_calls.specs.declared.read_reply.ReadReply.{ReadReply}
use Rattle.collector.specs.Collects.{MakesCollectFor}
use Rattle.collector.specs.Writes.{MakesWriteFor}
use Rattle.race_runs.specs.RaceEnds.{lacks_room}
use Rattle.refresh.specs.Refreshes.{MakesRefreshFor}
use Rattle.ssd_geo.specs.declared.entry.Entry.{Entry}
use Rattle.ssd_geo.specs.declared.stop.StepStop.{StepStop}
use Rattle.ssd_geo.specs.declared.tag.Tag.{Tag}
use Rattle.ssd_geo.specs.declared.trace.Content.{Content}
use Rattle.ssd_geo.specs.declared.trace.Verb.{Verb}
use Rattle.ssd_histories.specs.Start.{Start}

-- a call of a verb stopped with this past, which has so many entries
pub record IsWithoutRoom (start : Start) (tag : Tag) (verb : Verb) (past : List Entry) (entries : ℕ) : Type 0 where
  pub no_room : IsTrue (lacks_room start tag verb past)
  pub has_length : entries ≡ length past

-- a trim, an ageing, a read
abbrev pub TrimsStopWithoutRoom : Type 0
TrimsStopWithoutRoom =
    (start : Start) (channels page entries : ℕ) (old new : CallerView) (tag : Tag) → old.limit ≡ start.limit →
    IsStepped {A = Unit {0}} HasStepRoom (MakesTrim tag (page / channels)) tag old new (Err (StepStop.HistoryFull entries)) →
    IsWithoutRoom start tag (Verb.Trim page) new.seen entries

abbrev pub AgesStopWithoutRoom : Type 0
AgesStopWithoutRoom =
    (start : Start) (channel die sb amount entries : ℕ) (old new : CallerView) (tag : Tag) → old.limit ≡ start.limit →
    IsStepped HasStepRoom (MakesAge tag die sb amount) tag old new (Err (StepStop.HistoryFull entries)) →
    IsWithoutRoom start tag (Verb.Age channel die sb amount) new.seen entries

abbrev pub ReadsStopWithoutRoom : Type 0
ReadsStopWithoutRoom =
    (start : Start) (page entries : ℕ) (old new : CallerView) (tag : Tag) → old.limit ≡ start.limit →
    IsStepped {A = ReadReply} HasLookRoom (λ now reply seen. ⊤) tag old new (Err (StepStop.HistoryFull entries)) →
    IsWithoutRoom start tag (Verb.Read page) new.seen entries

-- a refresh, alone and of a drain
pub record AreWithoutRoom (start : Start) (tag : Tag) (page count : ℕ) (past : List Entry) (entries : ℕ) : Type 0 where
  pub alone : IsWithoutRoom start tag (Verb.Refresh page) past entries
  pub drained : IsWithoutRoom start tag (Verb.Drain count) past entries

abbrev pub RefreshesStopWithoutRoom : Type 0
RefreshesStopWithoutRoom =
    (start : Start) (contents : List (Tag × List ℕ)) (caller : CallerView) (tag : Tag) (row page count entries : ℕ)
    (after : List Entry) → caller.limit ≡ start.limit →
    MakesRefreshFor start contents caller tag row after (Err (StepStop.HistoryFull entries)) →
    AreWithoutRoom start tag page count after entries

-- a write and a collect
abbrev pub WritesStopWithoutRoom : Type 0
WritesStopWithoutRoom =
    (start : Start) (contents : List (Tag × List ℕ)) (caller : CallerView) (tag : Tag) (row page entries : ℕ) (content : Content)
    (before after : List Entry) → caller.limit ≡ start.limit →
    MakesWriteFor start contents caller tag row before after (Err (StepStop.HistoryFull entries)) →
    IsWithoutRoom start tag (Verb.Write page content) after entries

abbrev pub CollectsStopWithoutRoom : Type 0
CollectsStopWithoutRoom =
    (start : Start) (contents : List (Tag × List ℕ)) (caller : CallerView) (tag : Tag) (channel entries : ℕ)
    (before after : List Entry) → caller.limit ≡ start.limit →
    MakesCollectFor start contents caller tag before after (Err (StepStop.HistoryFull entries)) →
    IsWithoutRoom start tag (Verb.Collect channel) after entries
