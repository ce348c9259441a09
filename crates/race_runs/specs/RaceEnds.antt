-- How does a race end? It is whole where each call has a reply. Where an actor has a call without one, a history's limit
-- stopped it: some beginning of a channel's history has all that the actor made there, and no room for the next step of the
-- actor's first call without a reply. When it stopped among the others isn't said but by that. The law is the contract of a
-- function without a body.
use Rattle.std.specs.Prelude.{ℕ, ◌≡◌, ◌≢◌, Bool, true, false, ◌&&◌, ◌||◌, not, is_some, IfSome, IsSomeAnd, IsTrue, List, ◌++◌, length, slice_get, All, Any, Option, Some, None}
use Rattle.std.specs.List.{list_all, list_any}
use Rattle.ssd_geo.specs.declared.base.ChannelBase.{ChannelBase}
use Rattle.ssd_geo.specs.declared.entry.Entry.{Entry}
use Rattle.ssd_geo.specs.declared.tag.Tag.{Tag}
use Rattle.ssd_geo.specs.declared.trace.TraceCall.{TraceCall}
use Rattle.ssd_geo.specs.declared.trace.Verb.{Verb}
use Rattle.ssd_histories.specs.CallSteps.{is_pick, late_pasts}
use Rattle.ssd_histories.specs.CallsInOrder.{ChannelRun, answered_by, reply_to}
use Rattle.ssd_histories.specs.History.{is_same_tag}
use Rattle.ssd_histories.specs.HistoryRoom.{has_look_room, has_step_room}
use Rattle.ssd_histories.specs.Replies.{row_looked_at}
use Rattle.ssd_histories.specs.Room.{victim_of}
use Rattle.ssd_histories.specs.Rounds.{needs_room}
use Rattle.ssd_histories.specs.Start.{Start}
use Rattle.run_laws.specs.Runs.{Run, channels_of}
use Rattle.run_laws.specs.ServedRuns.{channel_of}

-- a race is whole: each call was answered
abbrev pub IsWholeRace : Run → Type 0
IsWholeRace run = IsTrue (list_all (λ call. is_some (reply_to run.replies call.tag)) run.calls.calls)

-- whether a call picked a victim or looked at a row in a past
abbrev pub has_picked_or_looked : Tag → List Entry → Bool
has_picked_or_looked tag past =
    list_any (λ entry. is_same_tag tag entry.tag && (is_pick entry.kind || is_some (row_looked_at entry.kind))) past

-- whether a test passes after an actor's last entry in a past, or from its beginning on where the actor has none, up to its end
abbrev pub passes_lately : ℕ → (List Entry → Bool) → List Entry → Bool
passes_lately actor test past = list_any test (late_pasts actor past)

-- whether the next step of a call may be a look, after a past with all entries of its actor: a collect looks for a live page
-- once there was a victim, and a write once it needed room
abbrev pub may_look : ChannelBase → Tag → List Entry → Verb → Bool
may_look base tag past (Verb.Read page) = true
may_look base tag past (Verb.Refresh page) = true
may_look base tag past (Verb.Drain count) = true
may_look base tag past (Verb.Collect channel) =
    has_picked_or_looked tag past || passes_lately tag.actor (λ now. is_some (victim_of base now)) past
may_look base tag past (Verb.Write page content) =
    has_picked_or_looked tag past || passes_lately tag.actor (needs_room base) past
may_look base tag past verb = false

-- whether the history has no room for the next step of a call after such a past
abbrev pub lacks_room : Start → Tag → Verb → List Entry → Bool
lacks_room start tag verb past =
    not (has_step_room start.limit past) || (may_look start.base tag past verb && not (has_look_room start.limit past))

-- a channel's history has a beginning of so many entries, which has all entries of a call's actor in that history, and after
-- which there was no room for the call's next step
pub record HasStopPrefix (tag : Tag) (verb : Verb) (entries : ℕ) (channel : ChannelRun) : Type 0 where
  pub prefix : List Entry
  pub later : List Entry
  pub past_is : channel.past ≡ later ++ prefix
  pub has_length : length prefix ≡ entries
  pub of_others : All (λ entry. entry.tag.actor ≢ tag.actor) later
  pub no_room : IsTrue (lacks_room channel.start tag verb prefix)

-- a call stopped on a channel, at this length of its history: its page's channel or the one that it names, and for a drain any
pub record StopsOn (run : Run) (call : TraceCall) (channel entries : ℕ) : Type 0 where
  pub is_own : IfSome (channel_of (length run.starts) call.verb) (λ own. channel ≡ own)
  pub has_prefix : IsSomeAnd (slice_get (channels_of run) channel) (HasStopPrefix call.tag call.verb entries)

-- a call is the first of its actor without a reply
abbrev pub IsFirstUnanswered : Run → TraceCall → Type 0
IsFirstUnanswered run call = call.tag.call ≡ answered_by run.replies call.tag.actor

-- a call stopped somewhere
abbrev pub HasStopped : Run → TraceCall → Type 0
HasStopped run call = (channel : ℕ) × (entries : ℕ) × StopsOn run call channel entries

-- a call is the first of its actor without a reply, and stopped there
pub record IsNamedStop (run : Run) (channel entries : ℕ) (call : TraceCall) : Type 0 where
  pub is_first : IsFirstUnanswered run call
  pub stops : StopsOn run call channel entries

-- a race stopped: each actor's first call without a reply stopped somewhere, and one of them did where it is named
pub record IsStoppedRace (run : Run) (channel entries : ℕ) : Type 0 where
  pub each : All (λ call. IsFirstUnanswered run call → HasStopped run call) run.calls.calls
  pub named : Any (IsNamedStop run channel entries) run.calls.calls

-- how a race ended: whole, or at the limit of the history that is named, at the length that is named
abbrev pub EndsRace : Run → Option (ℕ × ℕ) → Type 0
EndsRace run None = IsWholeRace run
EndsRace run (Some stop) = IsStoppedRace run stop.0 stop.1

-- a race that stopped isn't whole
abbrev pub StoppedRacesAreNotWhole : Type 0
StoppedRacesAreNotWhole =
    (run : Run) (channel entries : ℕ) → IsStoppedRace run channel entries → IsWholeRace run → ⊥
