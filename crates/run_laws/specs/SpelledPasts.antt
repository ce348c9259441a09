-- Which histories does a text spell? What an entry names is its channel's, a serial is that of a write's call or the image's,
-- and a look began before what names it. So only the tag of an entry and the amount of an ageing are free, and these are a
-- call's: the histories of calls in order are spelled where the calls' own numbers fit their fields, for every verb.
use Rattle.std.specs.Prelude.{ℕ, ◌≡◌, ◌^◌, ◌<◌, ◌≤◌, true, IsTrue, List, length, map, All, ⊤}
use Rattle.std.specs.List.{list_all}
use Rattle.ssd_formats.specs.HistoryText.{are_spelled_histories, is_spelled_entry}
use Rattle.ssd_geo.specs.declared.entry.Entry.{Entry}
use Rattle.ssd_geo.specs.declared.kind.Kind.{Kind}
use Rattle.ssd_geo.specs.declared.reply.Reply.{Reply}
use Rattle.ssd_geo.specs.declared.tag.Tag.{Tag}
use Rattle.ssd_geo.specs.declared.trace.TraceCall.{TraceCall}
use Rattle.ssd_geo.specs.declared.trace.Verb.{Verb}
use Rattle.ssd_histories.specs.CallsInOrder.{AreCallsInOrder, ChannelRun}
use Rattle.ssd_histories.specs.History.{history_of}
use Rattle.ssd_histories.specs.Lawful.{IsLawful}
use Rattle.ssd_histories.specs.Standing.{IsPastOf, IsStart}
use Rattle.ssd_histories.specs.Start.{Start}
use Rattle.run_laws.specs.Serials.{HasSmallSerials}

-- the numbers of a tag fit their fields
pub record IsSmallTag (tag : Tag) : Type 0 where
  pub actor : tag.actor < 2 ^ 8
  pub call : tag.call < 2 ^ 32

-- so does the amount of an ageing, done or failed, in an entry and in a call
abbrev pub IsSmallKind : Kind → Type 0
IsSmallKind (Kind.Age die sb amount) = amount < 2 ^ 16
IsSmallKind (Kind.FaultAge die sb amount) = amount < 2 ^ 16
IsSmallKind kind = ⊤

abbrev pub IsSmallVerb : Verb → Type 0
IsSmallVerb (Verb.Age channel die sb amount) = amount < 2 ^ 16
IsSmallVerb verb = ⊤

-- the numbers of an entry that are a call's fit their fields, and those of a call
pub record IsSmallEntry (entry : Entry) : Type 0 where
  pub small_tag : IsSmallTag entry.tag
  pub small_kind : IsSmallKind entry.kind

pub record IsSmallCall (call : TraceCall) : Type 0 where
  pub small_tag : IsSmallTag call.tag
  pub small_verb : IsSmallVerb call.verb

-- the entries of a lawful past are spelled where those numbers fit
abbrev pub LawfulPastsAreSpelled : Type 0
LawfulPastsAreSpelled =
    (start : Start) (contents : List (Tag × List ℕ)) (past : List Entry) → IsStart start → HasSmallSerials start.base →
    IsLawful start contents past → length past ≤ 2 ^ 32 → All IsSmallEntry past → list_all is_spelled_entry past ≡ true

-- a channel has a past of its start, which is no longer than the limit, and began with small serials
pub record HasShortPast (contents : List (Tag × List ℕ)) (run : ChannelRun) : Type 0 where
  pub is_past : IsPastOf run.start contents run.past
  pub is_short : length run.past ≤ run.start.limit
  pub serials : HasSmallSerials run.start.base

-- the histories of calls in order are spelled where the calls' numbers fit
abbrev pub CallsInOrderAreSpelled : Type 0
CallsInOrderAreSpelled =
    (contents : List (Tag × List ℕ)) (calls : List TraceCall) (replies : List (List Reply)) (runs : List ChannelRun) →
    AreCallsInOrder contents calls replies runs → All (HasShortPast contents) runs → All IsSmallCall calls →
    length runs ≤ 256 → IsTrue (are_spelled_histories (map (λ run. history_of run.past) runs))
