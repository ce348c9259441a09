-- Where do the writes and collects of a caller stop that is alone on its channel, when the history has no room for their next
-- entry, or memory is refused? They were cut there, or broken off: with some entries more they would be those of calls that are
-- served one after the other. Each law is the contract of a function without a body.
use Rattle.std.specs.Prelude.{ℕ, ◌≡◌, List, [], ◌++◌, None, Err}
use Rattle.chan_calls.specs.Caller.{CallerView}
use Rattle.ssd_geo.specs.Coding.{coding_of}
use Rattle.ssd_geo.specs.declared.entry.Entry.{Entry}
use Rattle.ssd_geo.specs.declared.stop.StepStop.{StepStop}
use Rattle.ssd_geo.specs.declared.tag.Tag.{Tag}
use Rattle.ssd_histories.specs.History.{open_looks}
use Rattle.ssd_histories.specs.Lawful.{IsLawful}
use Rattle.ssd_histories.specs.PastPages.{ladder_of}
use Rattle.ssd_histories.specs.SerialCalls.{SerialCollect, SerialWrite}
use Rattle.ssd_histories.specs.SerialStop.{IsCut}
use Rattle.ssd_histories.specs.Start.{Start}
use Rattle.collector.specs.Collects.{MakesCollectFor}
use Rattle.collector.specs.Writes.{MakesWriteFor}

-- a write of a row was cut where the history had so many entries
abbrev pub IsCutWriteAlone : Start → List (Tag × List ℕ) → Tag → ℕ → ℕ → List Entry → List Entry → Type 0
IsCutWriteAlone start contents tag row entries before now =
    IsCut (SerialWrite (ladder_of (coding_of start.base) start contents) start.base tag row) start.limit entries before now

-- so was a collect
abbrev pub IsCutCollectAlone : Start → List (Tag × List ℕ) → Tag → ℕ → List Entry → List Entry → Type 0
IsCutCollectAlone start contents tag entries before now =
    IsCut (SerialCollect (ladder_of (coding_of start.base) start contents) start.base tag) start.limit entries before now

-- a write of a caller that is alone, which the history refused an entry, in a lawful past and upon one without an open look
abbrev pub WritesAloneStopAsCuts : Type 0
WritesAloneStopAsCuts =
    (start : Start) (contents : List (Tag × List ℕ)) (caller : CallerView) (tag : Tag) (row : ℕ) (before now : List Entry)
    (entries : ℕ) →
    caller.number ≡ None → caller.limit ≡ start.limit → IsLawful start contents now → open_looks before ≡ [] →
    MakesWriteFor start contents caller tag row before now (Err (StepStop.HistoryFull entries)) →
    IsCutWriteAlone start contents tag row entries before now

-- such a collect
abbrev pub CollectsAloneStopAsCuts : Type 0
CollectsAloneStopAsCuts =
    (start : Start) (contents : List (Tag × List ℕ)) (caller : CallerView) (tag : Tag) (before now : List Entry)
    (entries : ℕ) →
    caller.number ≡ None → caller.limit ≡ start.limit → IsLawful start contents now → open_looks before ≡ [] →
    MakesCollectFor start contents caller tag before now (Err (StepStop.HistoryFull entries)) →
    IsCutCollectAlone start contents tag entries before now

-- a call that leads from one past to another was broken off before its end, for want of memory: the past that stands has only its
-- first entries, and no look is open
pub record IsBrokenOff (fact : List Entry → List Entry → Type 0) (before past : List Entry) : Type 0 where
  pub made : List Entry
  pub later : List Entry
  pub begins : past ≡ made ++ before
  pub whole : fact before (later ++ past)
  pub none_open : open_looks past ≡ []

-- a write of a row was broken off
abbrev pub IsBrokenOffWriteAlone : Start → List (Tag × List ℕ) → Tag → ℕ → List Entry → List Entry → Type 0
IsBrokenOffWriteAlone start contents tag row before now =
    IsBrokenOff (SerialWrite (ladder_of (coding_of start.base) start contents) start.base tag row) before now

-- so was a collect
abbrev pub IsBrokenOffCollectAlone : Start → List (Tag × List ℕ) → Tag → List Entry → List Entry → Type 0
IsBrokenOffCollectAlone start contents tag before now =
    IsBrokenOff (SerialCollect (ladder_of (coding_of start.base) start contents) start.base tag) before now

-- a write of a caller that is alone, for which memory was refused, in a lawful past and upon one without an open look
abbrev pub WritesAloneBreakOff : Type 0
WritesAloneBreakOff =
    (start : Start) (contents : List (Tag × List ℕ)) (caller : CallerView) (tag : Tag) (row : ℕ) (before now : List Entry) →
    caller.number ≡ None → caller.limit ≡ start.limit → IsLawful start contents now → open_looks before ≡ [] →
    MakesWriteFor start contents caller tag row before now (Err StepStop.Memory) →
    IsBrokenOffWriteAlone start contents tag row before now

-- such a collect
abbrev pub CollectsAloneBreakOff : Type 0
CollectsAloneBreakOff =
    (start : Start) (contents : List (Tag × List ℕ)) (caller : CallerView) (tag : Tag) (before now : List Entry) →
    caller.number ≡ None → caller.limit ≡ start.limit → IsLawful start contents now → open_looks before ≡ [] →
    MakesCollectFor start contents caller tag before now (Err StepStop.Memory) →
    IsBrokenOffCollectAlone start contents tag before now
