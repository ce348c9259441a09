-- Did a drain take few hints in which its actor stopped? It refreshed some pages before it stopped, no more than were asked for, and
-- made on each channel what those of the channel tell. Each law is the contract of a function without a body.
use Rattle.std.specs.Prelude.{ℕ, ◌≡◌, ◌≤◌, IsTrue, List, [], length, All}
use Rattle.std.specs.List.{enumerate_from}
use Rattle.calls_among_others.specs.StepsAmong.{HasCome}
use Rattle.race_laws.specs.Drains.{AreRefreshedAmong}
use Rattle.race_laws.specs.Races.{HasDrainedFew}
use Rattle.ssd_geo.specs.declared.entry.Entry.{Entry}
use Rattle.ssd_geo.specs.declared.reply.RefreshReply.{RefreshReply}
use Rattle.ssd_geo.specs.declared.tag.Tag.{Tag}
use Rattle.ssd_histories.specs.CallSteps.{steps_of}
use Rattle.ssd_histories.specs.CallsInOrder.{ChannelRun}
use Rattle.ssd_histories.specs.Replies.{is_fault_last, pages_on}
use Rattle.ssd_histories.specs.Start.{Start}

-- what a call refreshed on a channel it refreshed in each past to which others came
abbrev pub RefreshedStays : Type 0
RefreshedStays =
    (start : Start) (contents : List (Tag × List ℕ)) (channels : ℕ) (tag : Tag) (pages : List (ℕ × RefreshReply))
    (before seen past : List Entry) →
    HasCome tag.actor seen past → AreRefreshedAmong start contents channels tag pages before seen →
    AreRefreshedAmong start contents channels tag pages before past

-- a call made on a channel, since a past with no step of it, the refreshes of those of some pages that are of the channel
pub record HasRefreshedOn (contents : List (Tag × List ℕ)) (channels : ℕ) (tag : Tag) (pages : List (ℕ × RefreshReply))
    (item : ℕ × ChannelRun) : Type 0 where
  pub before : List Entry
  pub none_before : steps_of tag before ≡ []
  pub are_refreshed :
      AreRefreshedAmong item.1.start contents channels tag (pages_on channels item.0 pages) before item.1.past

-- where it did so on each channel, with no more pages than were asked for, it took few
abbrev pub BegunDrainsTakeFew : Type 0
BegunDrainsTakeFew =
    (contents : List (Tag × List ℕ)) (runs : List ChannelRun) (tag : Tag) (count : ℕ) (pages : List (ℕ × RefreshReply)) →
    All (HasRefreshedOn contents (length runs) tag pages) (enumerate_from 0 runs) → IsTrue (is_fault_last pages) →
    length pages ≤ count → HasDrainedFew runs tag count
