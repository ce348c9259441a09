-- What does a drain come to where others make their entries between its steps? It refreshed some pages one after the other,
-- each on its channel; on each channel its steps are those that calls in order ask of a drain, and decide the pages of its
-- reply that are of the channel. Each law is the contract of a function without a body.
use Rattle.std.specs.Prelude.{ℕ, ◌≡◌, ◌/◌, ◌<◌, ◌≤◌, IsTrue, List, [], ◌∷◌, length, All}
use Rattle.std.specs.List.{enumerate_from}
use Rattle.ssd_geo.specs.declared.entry.Entry.{Entry}
use Rattle.ssd_geo.specs.declared.reply.RefreshReply.{RefreshReply}
use Rattle.ssd_geo.specs.declared.reply.Reply.{Reply}
use Rattle.ssd_geo.specs.declared.tag.Tag.{Tag}
use Rattle.ssd_geo.specs.declared.trace.Verb.{Verb}
use Rattle.ssd_histories.specs.CallSteps.{steps_of}
use Rattle.ssd_histories.specs.CallsInOrder.{AreRefreshes, ChannelRun, ladder_in, steps_on}
use Rattle.ssd_histories.specs.Replies.{decided_pages, drained_on, is_fault_last, pages_on}
use Rattle.ssd_histories.specs.Start.{Start}
use Rattle.calls_among_others.specs.CallsAmong.{IsCallAmong}
use Rattle.calls_among_others.specs.Parts.{IsRefreshAmong}
use Rattle.calls_among_others.specs.StepsAmong.{HasCome}
use Rattle.race_laws.specs.Races.{HasDrainedFew}

-- a call refreshed these pages of a channel one after the other, each among the calls of others, with these replies
abbrev pub AreRefreshedAmong : Start → List (Tag × List ℕ) → ℕ → Tag → List (ℕ × RefreshReply) → List Entry → List Entry →
    Type 0
AreRefreshedAmong start contents channels tag [] before after = HasCome tag.actor before after
AreRefreshedAmong start contents channels tag (drained ∷ pages) before after =
    (between : List Entry) × IsRefreshAmong start contents tag (drained.0 / channels) before between drained.1
    × AreRefreshedAmong start contents channels tag pages between after

-- a drain whose pages of a channel were refreshed there, and of whose pages only the last may tell of a failed call
abbrev pub DrainsAmongAreDrains : Type 0
DrainsAmongAreDrains =
    (start : Start) (contents : List (Tag × List ℕ)) (channels channel : ℕ) (tag : Tag) (count : ℕ)
    (pages : List (ℕ × RefreshReply)) (before after : List Entry) →
    channel < channels → IsTrue (is_fault_last pages) →
    AreRefreshedAmong start contents channels tag (pages_on channels channel pages) before after →
    IsCallAmong start contents channels channel tag (Verb.Drain count) before after (Reply.Drained pages)

-- what a drain made on a channel are refreshes, and they decide those of some pages that are of the channel
pub record AreDrainedOn (contents : List (Tag × List ℕ)) (channels : ℕ) (tag : Tag) (pages : List (ℕ × RefreshReply))
    (item : ℕ × ChannelRun) : Type 0 where
  pub are_refreshes : AreRefreshes (ladder_in contents item.1) (steps_on tag item.1)
  pub are_drained :
      drained_on (ladder_in contents item.1) channels item.0 (steps_on tag item.1) ≡
      decided_pages (pages_on channels item.0 pages)

-- where the pages of all channels are no more than were asked for, and only the last may tell of a failed call, a drain took no
-- more hints than it asked for, and at most one die's call failed in it
abbrev pub DrainsTakeFew : Type 0
DrainsTakeFew =
    (contents : List (Tag × List ℕ)) (runs : List ChannelRun) (tag : Tag) (count : ℕ) (pages : List (ℕ × RefreshReply)) →
    All (AreDrainedOn contents (length runs) tag pages) (enumerate_from 0 runs) → IsTrue (is_fault_last pages) →
    length pages ≤ count → HasDrainedFew runs tag count

-- the pages of a drain of an actor that had made no step of it: what it made on a channel is drained
abbrev pub RefreshedPagesAreDrained : Type 0
RefreshedPagesAreDrained =
    (start : Start) (contents : List (Tag × List ℕ)) (channels channel : ℕ) (tag : Tag) (pages : List (ℕ × RefreshReply))
    (before after : List Entry) →
    channel < channels → IsTrue (is_fault_last pages) → steps_of tag before ≡ [] →
    AreRefreshedAmong start contents channels tag (pages_on channels channel pages) before after →
    AreDrainedOn contents channels tag pages (channel, record { start = start; past = after })
