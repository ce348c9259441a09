-- Which hints does a serial run take, in which order, and which does it drop? A read whose reply is data of a rung that isn't 0
-- gives its page as a hint. It is dropped just where the queue is full; the others are taken in the order in which they came.
use Rattle.std.specs.Prelude.{ℕ, ◌+◌, ◌-◌, ◌≡◌, ◌≤◌, nat_lt, true, false, List, [], ◌∷◌, ◌++◌, length, Option, Some, None, slice_get}
use Rattle.ssd_histories.specs.CallsInOrder.{AreNumberedAfter, reply_to}
use Rattle.ssd_histories.specs.SerialHistory.{IsSerialRun, SerialState, is_hint, most_hints, pages_drained}
use Rattle.ssd_histories.specs.SerialStop.{IsSerialStop}
use Rattle.ssd_histories.specs.Start.{Start}
use Rattle.ssd_geo.specs.declared.reply.Reply.{Reply}
use Rattle.ssd_geo.specs.declared.tag.Tag.{Tag}
use Rattle.ssd_geo.specs.declared.trace.TraceCall.{TraceCall}
use Rattle.ssd_geo.specs.declared.trace.Verb.{Verb}

-- the page that is the hint of a call with this reply, if it has one
abbrev pub hint_by : Option Reply → Verb → Option ℕ
hint_by reply (Verb.Read page) = elim (is_hint reply) [ true ↦ Some page | false ↦ None ]
hint_by reply verb = None

-- the pages that a reply, if there is one, says were drained
abbrev pub pages_told : Option Reply → List ℕ
pages_told (Some reply) = pages_drained reply
pages_told None = []

-- the pages that a call with this reply took, if it is a drain
abbrev pub pages_by : Option Reply → Verb → List ℕ
pages_by reply (Verb.Drain count) = pages_told reply
pages_by reply verb = []

-- of a hint, where so many pages wait: the page if it is kept, and how many are dropped; it is dropped where the queue is full
abbrev pub kept_of : ℕ → Option ℕ → List ℕ
kept_of waiting (Some page) = elim (nat_lt waiting most_hints) [ true ↦ page ∷ [] | false ↦ [] ]
kept_of waiting None = []

abbrev pub dropped_of : ℕ → Option ℕ → ℕ
dropped_of waiting (Some page) = elim (nat_lt waiting most_hints) [ true ↦ 0 | false ↦ 1 ]
dropped_of waiting None = 0

-- how many pages wait after some were kept and some taken
abbrev pub waiting_after : ℕ → List ℕ → List ℕ → ℕ
waiting_after waiting kept taken = waiting + length kept - length taken

-- how many wait after a call
abbrev pub waiting_by : List (List Reply) → ℕ → TraceCall → ℕ
waiting_by replies waiting call =
    waiting_after waiting (kept_of waiting (hint_by (reply_to replies call.tag) call.verb))
    (pages_by (reply_to replies call.tag) call.verb)

-- the pages that the drains of some calls took, in order
abbrev pub pages_taken : List (List Reply) → List TraceCall → List ℕ
pages_taken replies [] = []
pages_taken replies (call ∷ calls) = pages_by (reply_to replies call.tag) call.verb ++ pages_taken replies calls

-- the pages of the hints of some calls that weren't dropped, in order, where so many wait before the first call
abbrev pub pages_kept : List (List Reply) → ℕ → List TraceCall → List ℕ
pages_kept replies waiting [] = []
pages_kept replies waiting (call ∷ calls) =
    kept_of waiting (hint_by (reply_to replies call.tag) call.verb)
    ++ pages_kept replies (waiting_by replies waiting call) calls

-- how many of their hints were dropped
abbrev pub count_dropped : List (List Reply) → ℕ → List TraceCall → ℕ
count_dropped replies waiting [] = 0
count_dropped replies waiting (call ∷ calls) =
    dropped_of waiting (hint_by (reply_to replies call.tag) call.verb)
    + count_dropped replies (waiting_by replies waiting call) calls

-- the queue of a run is exact: the pages taken, and after them those that wait, are the pages that weren't dropped, in order
pub record HasExactQueue (replies : List (List Reply)) (calls : List TraceCall) (after : SerialState) : Type 0 where
  pub in_order : pages_taken replies calls ++ after.hints ≡ pages_kept replies 0 calls
  pub dropped : after.dropped ≡ count_dropped replies 0 calls
  pub few : length after.hints ≤ most_hints

abbrev pub SerialHintsAreExact : Type 0
SerialHintsAreExact =
    (contents : List (Tag × List ℕ)) (starts : List Start) (actors : ℕ) (calls : List TraceCall) (replies : List (List Reply))
    (after : SerialState) →
    AreNumberedAfter actors [] calls → IsSerialRun contents starts calls replies after → HasExactQueue replies calls after

-- so the n-th page taken is the n-th page that wasn't dropped
abbrev pub HintsAreTakenInOrder : Type 0
HintsAreTakenInOrder =
    (contents : List (Tag × List ℕ)) (starts : List Start) (actors : ℕ) (calls : List TraceCall) (replies : List (List Reply))
    (after : SerialState) →
    AreNumberedAfter actors [] calls → IsSerialRun contents starts calls replies after →
    (n page : ℕ) → slice_get (pages_taken replies calls) n ≡ Some page → slice_get (pages_kept replies 0 calls) n ≡ Some page

-- the hints that a call took which was cut: those at the front of the queue
pub record TakesCutHints (before after : SerialState) : Type 0 where
  pub pages : List ℕ
  pub hints : before.hints ≡ pages ++ after.hints
  pub same_dropped : after.dropped ≡ before.dropped

-- where a run stopped in a call, the queue is exact: the pages taken are those of the calls served and of the one that was cut
pub record HasExactStop (replies : List (List Reply)) (served : List TraceCall) (before after : SerialState) : Type 0 where
  pub taken : TakesCutHints before after
  pub in_order : (pages_taken replies served ++ taken.pages) ++ after.hints ≡ pages_kept replies 0 served
  pub dropped : after.dropped ≡ count_dropped replies 0 served

abbrev pub StoppedHintsAreExact : Type 0
StoppedHintsAreExact =
    (contents : List (Tag × List ℕ)) (starts : List Start) (actors : ℕ) (calls : List TraceCall) (replies : List (List Reply))
    (named entries : ℕ) (after : SerialState) (stop : IsSerialStop contents starts calls replies named entries after) →
    AreNumberedAfter actors [] calls → HasExactStop replies stop.served stop.before after
