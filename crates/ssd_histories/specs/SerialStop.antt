-- Which histories stand where a serial run stopped in the middle of a call? The call's next entry found no room in its channel's
-- history, so that entry and those after it are missing: with them it would be a whole call. A drain stops
-- only before the look of a refresh, whose hint it has taken; the refreshes before that are whole.
use Rattle.std.specs.Prelude.{ℕ, suc, ◌/◌, ◌%◌, ◌≡◌, false, IsTrue, List, ◌∷◌, ◌++◌, length, All, None}
use Rattle.ssd_histories.specs.CallsInOrder.{AreReplies, ChannelRun, IsNotMade, OfRun, is_age_of, is_trim_of, ladder_in, reply_to}
use Rattle.ssd_histories.specs.Copies.{IsRead, IsRefresh}
use Rattle.ssd_histories.specs.HistoryRoom.{has_look_room, has_room_for}
use Rattle.ssd_histories.specs.Lawful.{IsLawful}
use Rattle.ssd_histories.specs.Rounds.{is_one}
use Rattle.ssd_histories.specs.SerialCalls.{SerialCollect, SerialWrite}
use Rattle.ssd_histories.specs.SerialHistory.{AreServed, DrainedRefresh, HasForm, OnChannel, SerialState, first_state, without_hint}
use Rattle.ssd_histories.specs.Start.{Start}
use Rattle.ssd_geo.specs.declared.entry.Entry.{Entry}
use Rattle.ssd_geo.specs.declared.reply.Reply.{Reply}
use Rattle.ssd_geo.specs.declared.tag.Tag.{Tag}
use Rattle.ssd_geo.specs.declared.trace.TraceCall.{TraceCall}
use Rattle.ssd_geo.specs.declared.trace.Verb.{Verb}

-- a call that leads from one past to another was cut before its end: the past that stands has only its first entries, and the
-- history, of this length and with this limit, had no room for the next one
pub record IsCut (fact : List Entry → List Entry → Type 0) (limit entries : ℕ) (before past : List Entry) : Type 0 where
  pub made : List Entry
  pub next : Entry
  pub later : List Entry
  pub begins : past ≡ made ++ before
  pub whole : fact before (later ++ next ∷ past)
  pub has_length : length past ≡ entries
  pub no_room : has_room_for limit past next.kind ≡ false

-- a call on a channel was cut there, and the stop names the channel
pub record IsCutOn (channel named entries : ℕ) (fact : ChannelRun → List Entry → List Entry → Type 0) (before after : SerialState) : Type 0 where
  pub is_named : named ≡ channel
  pub is_cut : OnChannel channel (λ run. IsCut (fact run) run.start.limit entries) before after

-- a channel's history, of this length, has no room for a look
pub record HasNoLookRoom (entries : ℕ) (run : ChannelRun) : Type 0 where
  pub has_length : length run.past ≡ entries
  pub no_room : has_look_room run.start.limit run.past ≡ false

-- a drain of so many hints was cut: some refreshes are whole, and one more hint was taken, whose page's channel had no room
-- for the look of its refresh
pub data SerialDrainCut (contents : List (Tag × List ℕ)) (channels : ℕ) (tag : Tag) (named entries : ℕ) : ℕ → SerialState → SerialState → Type 0 where
  stops : {count page : ℕ} {rest : List ℕ} {before : SerialState} → before.hints ≡ page ∷ rest
      → named ≡ page % channels → OfRun before.channels named (HasNoLookRoom entries)
      → SerialDrainCut contents channels tag named entries (suc count) before (without_hint rest before)
  takes : {count page : ℕ} {rest : List ℕ} {before between after : SerialState} → before.hints ≡ page ∷ rest
      → DrainedRefresh contents channels tag page (without_hint rest before) between false
      → SerialDrainCut contents channels tag named entries count between after
      → SerialDrainCut contents channels tag named entries (suc count) before after

-- a call served alone that was cut, by its verb, since the history of the channel named, of this length, had no room
abbrev pub SerialCut : List (Tag × List ℕ) → ℕ → ℕ → ℕ → Tag → Verb → SerialState → SerialState → Type 0
SerialCut contents channels named entries tag (Verb.Write page content) before after =
    IsCutOn (page % channels) named entries
    (λ run. SerialWrite (ladder_in contents run) run.start.base tag (page / channels)) before after
SerialCut contents channels named entries tag (Verb.Read page) before after =
    IsCutOn (page % channels) named entries (λ run. HasForm (IsRead (ladder_in contents run) (page / channels)) tag) before after
SerialCut contents channels named entries tag (Verb.Trim page) before after =
    IsCutOn (page % channels) named entries
    (λ run. HasForm (λ steps. IsTrue (is_one (is_trim_of (page / channels)) steps)) tag) before after
SerialCut contents channels named entries tag (Verb.Refresh page) before after =
    IsCutOn (page % channels) named entries
    (λ run. HasForm (IsRefresh (ladder_in contents run) (page / channels)) tag) before after
SerialCut contents channels named entries tag (Verb.Collect channel) before after =
    IsCutOn channel named entries (λ run. SerialCollect (ladder_in contents run) run.start.base tag) before after
SerialCut contents channels named entries tag (Verb.Drain count) before after =
    SerialDrainCut contents channels tag named entries count before after
SerialCut contents channels named entries tag (Verb.Age channel die sb amount) before after =
    IsCutOn channel named entries
    (λ run. HasForm (λ steps. IsTrue (is_one (is_age_of die sb amount) steps)) tag) before after

-- a run that stopped in a call, since the history of the channel named, of this length, had no room for the call's next entry:
-- the calls before it were served one after the other; it was cut and has no reply, nor have the calls after it, which
-- have no entry either
pub record IsSerialStop (contents : List (Tag × List ℕ)) (starts : List Start) (calls : List TraceCall) (replies : List (List Reply)) (named entries : ℕ) (after : SerialState) : Type 0 where
  pub served : List TraceCall
  pub call : TraceCall
  pub rest : List TraceCall
  pub before : SerialState
  pub are_calls : calls ≡ served ++ call ∷ rest
  pub are_served : AreServed contents replies (length starts) served (first_state starts) before
  pub is_cut : SerialCut contents (length starts) named entries call.tag call.verb before after
  pub no_replies : All (λ other. reply_to replies other.tag ≡ None) (call ∷ rest)
  pub not_begun : All (IsNotMade after.channels) rest
  pub are_lawful : All (λ run. IsLawful run.start contents run.past) after.channels
  pub are_replies : AreReplies contents calls replies after.channels
