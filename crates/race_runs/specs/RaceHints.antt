-- What became of the hints of a race? Each read that is a hint pushed its page behind the shared queue, or met it full and
-- dropped the page. Each drain took the pages of its reply, one after the other, and ended where it had as many as were
-- asked for, where a die's call failed, or where it found the queue empty. An actor that stopped in a drain took some pages
-- more. In one order of the queue the pages taken are the first of those pushed, and each actor's stand there in its own
-- order. Each law is the contract of a function without a body.
use Rattle.std.specs.Prelude.{ℕ, ◌≡◌, ◌⊎◌, ◌+◌, ◌-◌, ◌≤◌, ◌<◌, nat_lt, Bool, true, false, ◌&&◌, not, if◌then◌else◌, List, [], ◌∷◌, ◌++◌, length, map, filter, flat_map, zip, count_by, sum_by, slice_get, slice_index_or, Option, Some, None}
use Rattle.std.specs.List.{list_any, range_with_len}
use Rattle.hint_queue.specs.Orders.{AreInOrder, HintPassState, QueueState, having_met_full, having_pushed, knowing_all_taken, new_pass}
use Rattle.run_laws.specs.Runs.{Run}
use Rattle.run_laws.specs.ServedRuns.{hints_in, taken_in}
use Rattle.ssd_formats.specs.RunText.{is_hinted, taken_by}
use Rattle.ssd_formats.specs.TraceText.{is_of_actor}
use Rattle.ssd_geo.specs.declared.reply.RefreshReply.{RefreshReply}
use Rattle.ssd_geo.specs.declared.reply.Reply.{Reply}
use Rattle.ssd_geo.specs.declared.trace.TraceCall.{TraceCall}
use Rattle.ssd_geo.specs.declared.trace.Verb.{Verb}
use Rattle.ssd_histories.specs.CallsInOrder.{answered_by}
use Rattle.ssd_histories.specs.Replies.{is_die_fault}

-- an actor's calls, those that were answered with their replies, and the first one that was not, if there is one
abbrev pub calls_by : Run → ℕ → List TraceCall
calls_by run actor = filter (is_of_actor actor) run.calls.calls

abbrev pub answered_calls : Run → ℕ → List (TraceCall × Reply)
answered_calls run actor = zip (calls_by run actor) (slice_index_or run.replies actor [])

abbrev pub first_unanswered : Run → ℕ → Option TraceCall
first_unanswered run actor = slice_get (calls_by run actor) (answered_by run.replies actor)

-- a page was pushed, or met the queue full and was dropped
abbrev pub PushesOrDrops : ℕ → HintPassState → HintPassState → ℕ → Type 0
PushesOrDrops page before after dropped =
    (after ≡ having_pushed before page) × (dropped ≡ 0) ⊎ (after ≡ having_met_full before) × (dropped ≡ 1)

-- nothing was pushed, taken or dropped
abbrev pub LeavesHints : HintPassState → HintPassState → ℕ → Type 0
LeavesHints before after dropped = (after ≡ before) × (dropped ≡ 0)

-- a pass that took some pages more
abbrev pub having_taken_all : HintPassState → List ℕ → HintPassState
having_taken_all pass pages = record pass { taken = pass.taken ++ pages }

-- a drain that asked for so many pages took those of its reply, and ended: it had all, a die's call failed in the last
-- refresh, or it found the queue empty
pub data TakesHints (count : ℕ) (pages : List (ℕ × RefreshReply)) (before : HintPassState) : HintPassState → Type 0 where
  has_all : length pages ≡ count → TakesHints count pages before (having_taken_all before (map (λ drained. drained.0) pages))
  has_failed : list_any (λ drained. is_die_fault drained.1) pages ≡ true
      → TakesHints count pages before (having_taken_all before (map (λ drained. drained.0) pages))
  found_none : TakesHints count pages before (knowing_all_taken (having_taken_all before (map (λ drained. drained.0) pages)))

-- what an answered call did at the queue, and how many hints it dropped
abbrev pub HintsOfCall : Verb → Reply → HintPassState → HintPassState → ℕ → Type 0
HintsOfCall (Verb.Read page) reply before after dropped =
    (taken_by reply ≡ 0)
    × elim (is_hinted reply) [ true ↦ PushesOrDrops page before after dropped | false ↦ LeavesHints before after dropped ]
HintsOfCall (Verb.Drain count) (Reply.Drained pages) before after dropped = TakesHints count pages before after × (dropped ≡ 0)
HintsOfCall (Verb.Drain count) reply before after dropped = ⊥
HintsOfCall verb reply before after dropped = (taken_by reply ≡ 0) × LeavesHints before after dropped

-- what answered calls did there, one after the other
abbrev pub HintsOfCalls : List (TraceCall × Reply) → HintPassState → HintPassState → ℕ → Type 0
HintsOfCalls [] before after dropped = LeavesHints before after dropped
HintsOfCalls (made ∷ more) before after dropped =
    (between : HintPassState) × (first : ℕ) × (rest : ℕ) × (dropped ≡ first + rest)
    × HintsOfCall made.0.verb made.1 before between first × HintsOfCalls more between after rest

-- what a call did there that has no reply: a drain may have taken some pages, no more than it asked for
abbrev pub HintsOfStop : Verb → HintPassState → HintPassState → Type 0
HintsOfStop (Verb.Drain count) before after =
    (pages : List ℕ) × (length pages ≤ count) × (after ≡ having_taken_all before pages)
HintsOfStop verb before after = after ≡ before

abbrev pub HintsOfNext : Option TraceCall → HintPassState → HintPassState → Type 0
HintsOfNext (Some call) before after = HintsOfStop call.verb before after
HintsOfNext None before after = after ≡ before

-- what an actor's calls did there with its pass, which is the one of its number
pub record HintsOfActor (run : Run) (queue : QueueState) (actor dropped : ℕ) (pass : HintPassState) : Type 0 where
  pub few_replies : length (slice_index_or run.replies actor []) ≤ length (calls_by run actor)
  pub between : HintPassState
  pub answered : HintsOfCalls (answered_calls run actor) (new_pass queue actor) between dropped
  pub next : HintsOfNext (first_unanswered run actor) between pass

-- what the actors' calls did there with these passes, one for each actor, and how many hints were dropped in all
abbrev pub HintsFrom : Run → QueueState → ℕ → List HintPassState → ℕ → Type 0
HintsFrom run queue actor [] dropped = dropped ≡ 0
HintsFrom run queue actor (pass ∷ passes) dropped =
    (own : ℕ) × (others : ℕ) × (dropped ≡ own + others) × HintsOfActor run queue actor own pass
    × HintsFrom run queue (actor + 1) passes others

-- the hints of a race
pub record HintsOfRace (run : Run) : Type 0 where
  pub queue : QueueState
  pub passes : List HintPassState
  pub as_many : length passes ≡ length run.replies
  pub in_order : AreInOrder queue passes
  pub each : HintsFrom run queue 0 passes run.dropped

-- the hints dropped are among those that came, and those taken among the others
pub record AddUp (run : Run) : Type 0 where
  pub dropped : run.dropped ≤ hints_in run.replies
  pub taken : taken_in run.replies ≤ hints_in run.replies - run.dropped

abbrev pub HintsAddUp : Type 0
HintsAddUp = (run : Run) → HintsOfRace run → AddUp run

-- the pages of the reads that were hints, and those of the drains' replies
abbrev pub hinted_page : Verb → Reply → List ℕ
hinted_page (Verb.Read page) reply = elim (is_hinted reply) [ true ↦ page ∷ [] | false ↦ [] ]
hinted_page verb reply = []

abbrev pub drained_pages : Reply → List ℕ
drained_pages (Reply.Drained pages) = map (λ drained. drained.0) pages
drained_pages reply = []

abbrev pub hinted_by : Run → ℕ → List ℕ
hinted_by run actor = flat_map (λ made. hinted_page made.0.verb made.1) (answered_calls run actor)

abbrev pub drained_by : Run → ℕ → List ℕ
drained_by run actor = flat_map (λ made. drained_pages made.1) (answered_calls run actor)

-- how many of the pages of all actors pass a test
abbrev pub pages_count : (ℕ → Bool) → (ℕ → List ℕ) → ℕ → ℕ
pages_count test pages actors = sum_by (λ actor. count_by test (pages actor)) (range_with_len 0 actors)

-- the pages of all drains' replies are, counted with repeats, among those of all reads that were hints
abbrev pub DrainedPagesWereHinted : Type 0
DrainedPagesWereHinted =
    (run : Run) (test : ℕ → Bool) → HintsOfRace run →
    pages_count test (drained_by run) (length run.replies) ≤ pages_count test (hinted_by run) (length run.replies)

-- where a hint was dropped, at least 256 pages were pushed
abbrev pub DropsMetAFullQueue : Type 0
DropsMetAFullQueue = (run : Run) (hints : HintsOfRace run) → 0 < run.dropped → 256 ≤ length hints.in_order.pushed

-- whether a drain found the queue empty: its reply has fewer pages than were asked for, and no die's call failed
abbrev pub found_empty : Verb → Reply → Bool
found_empty (Verb.Drain count) (Reply.Drained pages) =
    nat_lt (length pages) count && not (list_any (λ drained. is_die_fault drained.1) pages)
found_empty verb reply = false

-- the pages of the reads that were hints before the last drain that found the queue empty, where so many were before it and so
-- many came up to some calls
abbrev pub hinted_before_empty : List ℕ → List ℕ → List (TraceCall × Reply) → List ℕ
hinted_before_empty before came [] = before
hinted_before_empty before came (made ∷ more) =
    hinted_before_empty (if found_empty made.0.verb made.1 then came else before) (came ++ hinted_page made.0.verb made.1) more

abbrev pub hinted_before_empty_by : Run → ℕ → List ℕ
hinted_before_empty_by run actor = hinted_before_empty [] [] (answered_calls run actor)

-- where each call was answered and no hint was dropped, what each actor hinted before it found the queue empty is, counted with
-- repeats, among the pages of all drains' replies
abbrev pub EmptyQueuesWereDrained : Type 0
EmptyQueuesWereDrained =
    (run : Run) (test : ℕ → Bool) → HintsOfRace run → run.dropped ≡ 0 →
    ((actor : ℕ) → actor < length run.replies → first_unanswered run actor ≡ None) →
    pages_count test (hinted_before_empty_by run) (length run.replies) ≤ pages_count test (drained_by run) (length run.replies)
