-- Which histories come of a trace whose calls are served one after the other? The calls are served in the order of the
-- trace's lines. Hints stand in one queue of at most 256 pages: a read whose rung isn't 0 pushes its page, and a
-- drain takes pages from the front. The superblocks picked and the die calls that failed are the only free choices.
use Rattle.std.specs.Prelude.{ℕ, zero, suc, ◌+◌, ◌/◌, ◌%◌, ◌≡◌, nat_lt, Bool, true, false, IsTrue, List, [], ◌∷◌, ◌++◌, length, map, slice_get, slice_set, Option, Some, None, All}
use Rattle.ssd_histories.specs.CallSteps.{CallStep, steps_of}
use Rattle.ssd_histories.specs.CallsInOrder.{AreReplies, ChannelRun, is_age_of, is_trim_of, ladder_in, reply_to}
use Rattle.ssd_histories.specs.Copies.{IsRead, IsRefresh}
use Rattle.ssd_histories.specs.Lawful.{IsLawful}
use Rattle.ssd_histories.specs.Replies.{read_reply}
use Rattle.ssd_histories.specs.Rounds.{has_fault, is_one}
use Rattle.ssd_histories.specs.Start.{Start}
use Rattle.ssd_histories.specs.SerialCalls.{AreStepsFrom, SerialCollect, SerialWrite}
use Rattle.ssd_geo.specs.declared.entry.Entry.{Entry}
use Rattle.ssd_geo.specs.declared.reply.Reply.{Reply}
use Rattle.ssd_geo.specs.declared.tag.Tag.{Tag}
use Rattle.ssd_geo.specs.declared.trace.TraceCall.{TraceCall}
use Rattle.ssd_geo.specs.declared.trace.Verb.{Verb}

-- a run between two calls: its channels, the hints in their order, and how many hints were dropped
pub record SerialState : Type 0 where
  pub channels : List ChannelRun
  pub hints : List ℕ
  pub dropped : ℕ

-- the greatest number of hints that the queue holds
abbrev pub most_hints : ℕ
most_hints = 256

-- a run after a page was pushed: a full queue drops it
abbrev pub with_hint : ℕ → SerialState → SerialState
with_hint page state =
    elim (nat_lt (length state.hints) most_hints) [
      | true ↦ record state { hints = state.hints ++ page ∷ [] }
      | false ↦ record state { dropped = state.dropped + 1 }
    ]

-- a run after a channel came to another past
abbrev pub with_past : ℕ → List Entry → ChannelRun → SerialState → SerialState
with_past channel after run state =
    record state { channels = slice_set state.channels channel (record { start = run.start; past = after }) }

-- on one channel of a run a fact holds between the past before and one after, and nothing else of the run changes
pub record OnChannel (channel : ℕ) (fact : ChannelRun → List Entry → List Entry → Type 0) (before after : SerialState) : Type 0 where
  pub run : ChannelRun
  pub past : List Entry
  pub is_there : slice_get before.channels channel ≡ Some run
  pub holds : fact run run.past past
  pub after_is : after ≡ with_past channel past run before

-- the steps that a call made between two pasts have a form
pub record HasForm (form : List CallStep → Type 0) (tag : Tag) (before after : List Entry) : Type 0 where
  pub steps : List CallStep
  pub are_steps : AreStepsFrom tag before steps after
  pub has_form : form steps

-- a read of a page, and a refresh of one, on the page's channel
abbrev pub SerialRead : List (Tag × List ℕ) → ℕ → Tag → ℕ → SerialState → SerialState → Type 0
SerialRead contents channels tag page before after =
    OnChannel (page % channels) (λ run. HasForm (IsRead (ladder_in contents run) (page / channels)) tag) before after

abbrev pub SerialRefresh : List (Tag × List ℕ) → ℕ → Tag → ℕ → SerialState → SerialState → Type 0
SerialRefresh contents channels tag page before after =
    OnChannel (page % channels) (λ run. HasForm (IsRefresh (ladder_in contents run) (page / channels)) tag) before after

-- whether a read's reply has data of a rung that isn't 0, so that its page is pushed
abbrev pub is_hint : Option Reply → Bool
is_hint (Some (Reply.Data zero bytes)) = false
is_hint (Some (Reply.Data (suc rung) bytes)) = true
is_hint _ = false

-- the reply of a read on its channel
abbrev pub reply_of_read : List (Tag × List ℕ) → ℕ → Tag → SerialState → Option Reply
reply_of_read contents channel tag state =
    elim (slice_get state.channels channel) [
      | Some run ↦ read_reply run.start.base.shape.bytes (ladder_in contents run) (steps_of tag run.past)
      | None ↦ None
    ]

-- a run after a read came to its end: the page is pushed where the read is a hint
abbrev pub after_read : List (Tag × List ℕ) → ℕ → Tag → ℕ → SerialState → SerialState
after_read contents channels tag page state =
    elim (is_hint (reply_of_read contents (page % channels) tag state)) [ true ↦ with_hint page state | false ↦ state ]

-- a refresh in a drain, with whether a die's call failed in it
pub record DrainedRefresh (contents : List (Tag × List ℕ)) (channels : ℕ) (tag : Tag) (page : ℕ) (before after : SerialState) (fault : Bool) : Type 0 where
  pub run : ChannelRun
  pub past : List Entry
  pub steps : List CallStep
  pub is_there : slice_get before.channels (page % channels) ≡ Some run
  pub are_steps : AreStepsFrom tag run.past steps past
  pub is_refresh : IsRefresh (ladder_in contents run) (page / channels) steps
  pub fault_is : has_fault steps ≡ fault
  pub after_is : after ≡ with_past (page % channels) past run before

-- a run with its first hint taken
abbrev pub without_hint : List ℕ → SerialState → SerialState
without_hint rest state = record state { hints = rest }

-- a drain of so many hints, with the pages that it took: it takes the front page and refreshes it, again and again, until it has taken the number
-- asked, the queue is empty, or a die's call failed
pub data SerialDrain (contents : List (Tag × List ℕ)) (channels : ℕ) (tag : Tag) : ℕ → List ℕ → SerialState → SerialState → Type 0 where
  has_taken_all : {before : SerialState} → SerialDrain contents channels tag 0 [] before before
  finds_none : {count : ℕ} {before : SerialState} → before.hints ≡ []
      → SerialDrain contents channels tag count [] before before
  takes : {count page : ℕ} {rest pages : List ℕ} {before between after : SerialState} → before.hints ≡ page ∷ rest
      → DrainedRefresh contents channels tag page (without_hint rest before) between false
      → SerialDrain contents channels tag count pages between after
      → SerialDrain contents channels tag (suc count) (page ∷ pages) before after
  faults : {count page : ℕ} {rest : List ℕ} {before after : SerialState} → before.hints ≡ page ∷ rest
      → DrainedRefresh contents channels tag page (without_hint rest before) after true
      → SerialDrain contents channels tag (suc count) (page ∷ []) before after

-- the pages that a reply says were drained
abbrev pub pages_drained : Reply → List ℕ
pages_drained (Reply.Drained pages) = map (λ drained. drained.0) pages
pages_drained _ = []

-- a read, and then the push of its page where that is a hint
pub record SerialReadCall (contents : List (Tag × List ℕ)) (channels : ℕ) (tag : Tag) (page : ℕ) (before after : SerialState) : Type 0 where
  pub between : SerialState
  pub reads : SerialRead contents channels tag page before between
  pub after_is : after ≡ after_read contents channels tag page between

-- a call served alone, by its verb; the reply of a drain has the pages in the order in which they were taken
abbrev pub SerialCall : List (Tag × List ℕ) → ℕ → Tag → Reply → Verb → SerialState → SerialState → Type 0
SerialCall contents channels tag reply (Verb.Write page content) before after =
    OnChannel (page % channels) (λ run. SerialWrite (ladder_in contents run) run.start.base tag (page / channels)) before after
SerialCall contents channels tag reply (Verb.Read page) before after = SerialReadCall contents channels tag page before after
SerialCall contents channels tag reply (Verb.Trim page) before after =
    OnChannel (page % channels) (λ run. HasForm (λ steps. IsTrue (is_one (is_trim_of (page / channels)) steps)) tag) before after
SerialCall contents channels tag reply (Verb.Refresh page) before after = SerialRefresh contents channels tag page before after
SerialCall contents channels tag reply (Verb.Collect channel) before after =
    OnChannel channel (λ run. SerialCollect (ladder_in contents run) run.start.base tag) before after
SerialCall contents channels tag reply (Verb.Drain count) before after = SerialDrain contents channels tag count (pages_drained reply) before after
SerialCall contents channels tag reply (Verb.Age channel die sb amount) before after =
    OnChannel channel (λ run. HasForm (λ steps. IsTrue (is_one (is_age_of die sb amount) steps)) tag) before after

-- the calls of a list served one after the other, each answered by a reply of its actor's list
pub data AreServed (contents : List (Tag × List ℕ)) (replies : List (List Reply)) (channels : ℕ) : List TraceCall → SerialState → SerialState → Type 0 where
  none_left : {before : SerialState} → AreServed contents replies channels [] before before
  serves : {call : TraceCall} {calls : List TraceCall} {reply : Reply} {before between after : SerialState}
      → reply_to replies call.tag ≡ Some reply
      → SerialCall contents channels call.tag reply call.verb before between
      → AreServed contents replies channels calls between after
      → AreServed contents replies channels (call ∷ calls) before after

-- a run before its first call
abbrev pub first_state : List Start → SerialState
first_state starts = record { channels = map (λ start. record { start = start; past = [] }) starts; hints = []; dropped = 0 }

-- a run after its last call, with the replies of each actor: the calls were served one after the other, each history is
-- lawful, and the replies are those of the calls
pub record IsSerialRun (contents : List (Tag × List ℕ)) (starts : List Start) (calls : List TraceCall) (replies : List (List Reply)) (after : SerialState) : Type 0 where
  pub are_served : AreServed contents replies (length starts) calls (first_state starts) after
  pub are_lawful : All (λ run. IsLawful run.start contents run.past) after.channels
  pub are_replies : AreReplies contents calls replies after.channels
