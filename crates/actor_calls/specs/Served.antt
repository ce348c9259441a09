-- What did a call come to on all channels? On each it is a call of its verb among those of other actors, which has its reply there;
-- or it was begun there, and stopped on one of them. On a channel that it doesn't ask for it made nothing.
use Rattle.std.specs.Prelude.{ℕ, ◌≡◌, ◌≤◌, Bool, true, false, List, [], ◌∷◌, length, not, slice_get, Some, Result, Ok, Err, ⊤}
use Rattle.std.specs.List.{list_all}
use Rattle.chan_calls.specs.Caller.{CallerView}
use Rattle.ssd_geo.specs.declared.reply.RefreshReply.{RefreshReply}
use Rattle.ssd_geo.specs.declared.reply.Reply.{Reply}
use Rattle.ssd_geo.specs.declared.stop.ServeStop.{ServeStop}
use Rattle.ssd_geo.specs.declared.tag.Tag.{Tag}
use Rattle.ssd_geo.specs.declared.trace.Verb.{Verb}
use Rattle.ssd_histories.specs.Replies.{is_die_fault, pages_on}
use Rattle.calls_among_others.specs.CallsAmong.{IsCallAmong}
use Rattle.race_laws.specs.BegunCalls.{IsBegunAmong}
use Rattle.race_laws.specs.Drains.{AreRefreshedAmong}
use Rattle.race_laws.specs.RaceReplies.{IsDrainAnswered}
use Rattle.actor_calls.specs.Known.{ChannelFact, OfEachChannel}

-- whether a verb takes hints
abbrev pub is_drain : Verb → Bool
is_drain (Verb.Drain count) = true
is_drain verb = false

-- the stop names a channel, and how many entries its history had
pub record IsFullThere (news : List CallerView) (channel told : ℕ) : Type 0 where
  pub caller : CallerView
  pub is_there : slice_get news channel ≡ Some caller
  pub told_is : told ≡ length caller.seen

abbrev pub NamesStop : ServeStop → List CallerView → Type 0
NamesStop (ServeStop.HistoryFull channel told) news = IsFullThere news channel told
NamesStop ServeStop.Memory news = ⊤

-- on a channel of so many these pages were refreshed, if they are its own, and nothing else
abbrev pub refreshes_pages : ℕ → Tag → List (ℕ × RefreshReply) → ChannelFact
refreshes_pages channels tag pages channel start contents before after =
    AreRefreshedAmong start contents channels tag (pages_on channels channel pages) before after

-- a drain that was asked for so many pages stopped after it refreshed some, in none of which a die's call failed
pub record StopsInDrain (olds news : List CallerView) (tag : Tag) (count : ℕ) : Type 0 where
  pub pages : List (ℕ × RefreshReply)
  pub none_failed : list_all (λ drained. not (is_die_fault drained.1)) pages ≡ true
  pub few : length pages ≤ count
  pub refreshed : OfEachChannel (refreshes_pages (length olds) tag pages) olds news

abbrev pub WhereDrainStops : Verb → List CallerView → List CallerView → Tag → Type 0
WhereDrainStops (Verb.Drain count) olds news tag = StopsInDrain olds news tag count
WhereDrainStops verb olds news tag = ⊤

-- a call is whole on a channel of so many, or it was begun there
abbrev pub is_call_on : ℕ → Tag → Verb → Reply → ChannelFact
is_call_on channels tag verb reply channel start contents before after =
    IsCallAmong start contents channels channel tag verb before after reply

abbrev pub is_begun_on : ℕ → Tag → Verb → ChannelFact
is_begun_on channels tag verb channel start contents before after =
    IsBegunAmong start contents channels channel tag verb before after

-- a call was answered
pub record IsAnswered (olds news : List CallerView) (tag : Tag) (verb : Verb) (reply : Reply) : Type 0 where
  pub on_channels : OfEachChannel (is_call_on (length olds) tag verb reply) olds news
  pub drained : IsDrainAnswered verb reply

-- or it stopped
pub record IsStopped (olds news : List CallerView) (tag : Tag) (verb : Verb) (stop : ServeStop) : Type 0 where
  pub on_channels : OfEachChannel (is_begun_on (length olds) tag verb) olds news
  pub names : NamesStop stop news
  pub in_drain : WhereDrainStops verb olds news tag

abbrev pub ServesCall : List CallerView → List CallerView → Tag → Verb → Result Reply ServeStop → Type 0
ServesCall olds news tag verb (Ok reply) = IsAnswered olds news tag verb reply
ServesCall olds news tag verb (Err stop) = IsStopped olds news tag verb stop

-- the refresh of one page on its channel
pub record IsLeftAlone (olds news : List CallerView) (tag : Tag) (stop : ServeStop) : Type 0 where
  pub on_channels : OfEachChannel (refreshes_pages (length olds) tag []) olds news
  pub names : NamesStop stop news

abbrev pub RefreshesPage : List CallerView → List CallerView → Tag → ℕ → Result RefreshReply ServeStop → Type 0
RefreshesPage olds news tag page (Ok reply) =
    OfEachChannel (refreshes_pages (length olds) tag ((page, reply) ∷ [])) olds news
RefreshesPage olds news tag page (Err stop) = IsLeftAlone olds news tag stop
