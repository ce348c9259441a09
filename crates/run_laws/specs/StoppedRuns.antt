-- Where does a call stop whose channel's history has no room for its next entry? Before its first entry; in a write or a collect
-- wherever a step outside a look finds no room; and in a drain before the look of any of its refreshes. With some entries more it
-- would be whole.
use Rattle.std.specs.Prelude.{ℕ, suc, ◌≡◌, ◌/◌, ◌%◌, Bool, true, false, List, ◌∷◌, ◌++◌, length, slice_get, slice_set, Some}
use Rattle.ssd_formats.specs.ImageHead.{Head}
use Rattle.ssd_geo.specs.Coding.{coding_of}
use Rattle.ssd_geo.specs.declared.entry.Entry.{Entry}
use Rattle.ssd_geo.specs.declared.reply.RefreshReply.{RefreshReply}
use Rattle.ssd_geo.specs.declared.tag.Tag.{Tag}
use Rattle.ssd_geo.specs.declared.trace.TraceCall.{TraceCall}
use Rattle.ssd_geo.specs.declared.trace.Verb.{Verb}
use Rattle.ssd_histories.specs.HistoryRoom.{found_room, has_look_room, has_step_room}
use Rattle.ssd_histories.specs.Lawful.{IsLawful}
use Rattle.ssd_histories.specs.PastPages.{ladder_of}
use Rattle.ssd_histories.specs.Replies.{is_die_fault}
use Rattle.ssd_histories.specs.SerialCalls.{SerialCollect, SerialWrite}
use Rattle.ssd_histories.specs.SerialStop.{IsCut}
use Rattle.ssd_histories.specs.Start.{Start}
use Rattle.run_laws.specs.Runs.{Run, data_in}
use Rattle.run_laws.specs.SerialRuns.{ChannelsHold, HasCalls, IsHeadlineOfStop}
use Rattle.run_laws.specs.ServedRuns.{HasLedTo, RefreshesOn, channel_of}

-- whether the next entry that a call of a verb makes on its channel outside a look finds room in a history with this limit
abbrev pub has_first_room : ℕ → List Entry → Verb → Bool
has_first_room limit past (Verb.Read page) = has_look_room limit past
has_first_room limit past (Verb.Refresh page) = has_look_room limit past
has_first_room limit past verb = has_step_room limit past

-- the entries of a call of a verb found room in a history with this limit: where it makes no rounds, all behind the first have
-- room set aside
abbrev pub HaveFoundRoom : ℕ → List Entry → List Entry → Verb → Type 0
HaveFoundRoom limit before after (Verb.Write page content) = found_room limit before ≡ true → found_room limit after ≡ true
HaveFoundRoom limit before after (Verb.Collect channel) = found_room limit before ≡ true → found_room limit after ≡ true
HaveFoundRoom limit before after verb = has_first_room limit before verb ≡ true

-- a call has no entry, since its first finds no room
pub record IsBeforeFirst (limit : ℕ) (verb : Verb) (before now : List Entry) : Type 0 where
  pub is_same : now ≡ before
  pub no_room : has_first_room limit now verb ≡ false

-- a call of a verb was cut between two pasts of its channel: a write and a collect maybe after some rounds, the others that are
-- served so before their first entry
abbrev pub IsStoppedBy : Start → List (Tag × List ℕ) → ℕ → Tag → Verb → List Entry → List Entry → Type 0
IsStoppedBy start contents channels tag (Verb.Write page content) before now =
    IsCut (SerialWrite (ladder_of (coding_of start.base) start contents) start.base tag (page / channels)) start.limit
    (length now) before now
IsStoppedBy start contents channels tag (Verb.Collect channel) before now =
    IsCut (SerialCollect (ladder_of (coding_of start.base) start contents) start.base tag) start.limit (length now) before now
IsStoppedBy start contents channels tag (Verb.Drain count) before now = ⊥
IsStoppedBy start contents channels tag verb before now = IsBeforeFirst start.limit verb before now

-- a call of a run stopped, with this past of its channel, since the history had no room for its next entry
pub record StopsAt (contents : List (Tag × List ℕ)) (starts : List Start) (pasts : List (List Entry)) (call : TraceCall)
    (channel entries : ℕ) (now : List Entry) : Type 0 where
  pub is_channel : channel_of (length starts) call.verb ≡ Some channel
  pub start : Start
  pub past : List Entry
  pub has_start : slice_get starts channel ≡ Some start
  pub has_past : slice_get pasts channel ≡ Some past
  pub is_stopped : IsStoppedBy start contents (length starts) call.tag call.verb past now
  pub is_lawful : IsLawful start contents now
  pub has_length : length now ≡ entries

-- the history of a channel of a run, of so many entries, has no room for a look
pub record HasNoRoomToLook (starts : List Start) (pasts : List (List Entry)) (channel entries : ℕ) : Type 0 where
  pub start : Start
  pub past : List Entry
  pub has_start : slice_get starts channel ≡ Some start
  pub has_past : slice_get pasts channel ≡ Some past
  pub no_room : has_look_room start.limit past ≡ false
  pub has_length : length past ≡ entries

-- a drain of so many hints stopped on a channel: some refreshes are whole, and one more hint was taken, whose page is on that
-- channel, and found no room for its look; it led from some pasts and hints to others
pub data StopsInDrain (contents : List (Tag × List ℕ)) (starts : List Start) (tag : Tag) (channel entries : ℕ) : ℕ →
    List (List Entry) → List ℕ → List (List Entry) → List ℕ → Type 0 where
  stops : {count page : ℕ} {rest : List ℕ} {pasts : List (List Entry)} → channel ≡ page % length starts
      → HasNoRoomToLook starts pasts channel entries
      → StopsInDrain contents starts tag channel entries (suc count) pasts (page ∷ rest) pasts rest
  goes_on : {count page : ℕ} {reply : RefreshReply} {rest left : List ℕ} {pasts between now : List (List Entry)}
      → RefreshesOn contents starts tag page reply pasts between → is_die_fault reply ≡ false
      → StopsInDrain contents starts tag channel entries count between rest now left
      → StopsInDrain contents starts tag channel entries (suc count) pasts (page ∷ rest) now left

-- a call on one channel stopped there
pub record IsStoppedOnOne (contents : List (Tag × List ℕ)) (starts : List Start) (call : TraceCall) (channel entries : ℕ)
    (pasts : List (List Entry)) (hints : List ℕ) (now : List (List Entry)) (left : List ℕ) : Type 0 where
  pub past_now : List Entry
  pub stops : StopsAt contents starts pasts call channel entries past_now
  pub now_is : now ≡ slice_set pasts channel past_now
  pub left_is : left ≡ hints

-- a call of a verb stopped on a channel, whose history has so many entries, and led from some pasts and hints to others
abbrev pub IsStoppedAs : Verb → List (Tag × List ℕ) → List Start → TraceCall → ℕ → ℕ → List (List Entry) → List ℕ →
    List (List Entry) → List ℕ → Type 0
IsStoppedAs (Verb.Drain count) contents starts call channel entries pasts hints now left =
    StopsInDrain contents starts call.tag channel entries count pasts hints now left
IsStoppedAs verb contents starts call channel entries pasts hints now left =
    IsStoppedOnOne contents starts call channel entries pasts hints now left

abbrev pub IsStoppedCall : List (Tag × List ℕ) → List Start → TraceCall → ℕ → ℕ → List (List Entry) → List ℕ →
    List (List Entry) → List ℕ → Type 0
IsStoppedCall contents starts call = IsStoppedAs call.verb contents starts call

-- the statement holds of a run that stopped so
abbrev pub StoppedCallsHold : Type 0
StoppedCallsHold =
    (head : Head) (run : Run) (pasts : List (List Entry)) (hints left : List ℕ) (done rest : List TraceCall) (call : TraceCall)
    (channel entries : ℕ) →
    HasCalls head run → ChannelsHold head run → run.calls.calls ≡ done ++ call ∷ rest →
    HasLedTo (data_in head run) run.starts run.calls.actors done run.replies pasts hints run.dropped →
    IsStoppedCall (data_in head run) run.starts call channel entries pasts hints run.pasts left →
    IsHeadlineOfStop head run channel entries
