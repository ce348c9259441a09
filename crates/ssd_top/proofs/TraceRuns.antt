-- The calls of a trace one after the other: after so many of them a run that began with the trace
-- has their replies, and the next call may be served; the hints that wait are counted by the replies.
use Rattle.std.proofs.Common.{ℕ, suc, ◌≡◌, ◌+◌, ◌-◌, ◌<◌, ◌≤◌, Some, Bool, true, false, cond, List, [], ◌∷◌, ◌++◌, length, map, replicate, take, drop, refl, sym, ap, subst, ◌∙◌, arith, drop-cons, length-append, length-drop}
use Rattle.std.specs.Prelude.{◌&&◌, nat_lt, not, slice_get, slice_set, slice_index_or, option_map}
use Rattle.std.proofs.lemmas.List.{length-take-le, map-set, take-append-drop, take_all, take_more}
use Rattle.std.proofs.lemmas.Option.{get_or_from_slice_get, slice_get-get_or, slice_get-map}
use Rattle.chan_calls.specs.Workers.{WorkerState}
use Rattle.ctl.specs.Seen.{SeenChannel}
use Rattle.ctl.specs.Served.{IsServed, IsStopped, MayServe}
use Rattle.ssd_histories.specs.CallsInOrder.{AreNumberedAfter}
use Rattle.ssd_histories.specs.SerialHistory.{most_hints}
use Rattle.run_laws.specs.SerialRuns.{with_reply}
use Rattle.run_laws.specs.ServedRuns.{dropped_after, is_dropped, is_put}
use Rattle.serial_laws.proofs.NumberedTags.{numbered_back}
use Rattle.run_laws.proofs.QueuedHints.{hints_with_more, one_hint, taken_with_more}
use Rattle.ssd_formats.specs.RunText.{is_hinted, taken_by}
use Rattle.ssd_geo.specs.declared.reply.Reply.{Reply}
use Rattle.ssd_geo.specs.declared.trace.Trace.{Trace}
use Rattle.ssd_geo.specs.declared.trace.TraceCall.{TraceCall}
use Rattle.ssd_top.proofs.RunningCalls as Running
use Rattle.ssd_top.specs.Running.{BeginsRun, HasStopped, IsRunning, Job, RunsTo, waiting_after}

-- one more reply of an actor, where the replies are seen through their lists
pub reply_added : {V : Type 0} (view : V → List Reply) (lists : List V) (actor : ℕ)
    (reply : Reply) (before after : V) →
    actor < length lists → before ≡ slice_index_or lists actor before →
    view after ≡ view before ++ reply ∷ [] →
    map view (slice_set lists actor after) ≡ with_reply (map view lists) actor reply
reply_added view lists actor reply before after low is added =
    let there : slice_get (map view lists) actor ≡ Some (view (slice_index_or lists actor before)) =
    slice_get-map view lists actor ∙ ap (option_map view)
    (slice_get-get_or lists actor before low) in
    let here : view before ≡ slice_index_or (map view lists) actor [] =
    ap view is ∙ sym (get_or_from_slice_get (map view lists) actor
    (view (slice_index_or lists actor before)) [] there) in
    map-set view lists actor after
    ∙ ap {B = List (List Reply)} (slice_set (map view lists) actor)
    (added ∙ ap {B = List Reply} (λ (list : List Reply). list ++ reply ∷ []) here)

-- ---- the hints that wait

-- a reply is no hint and took some, or is one and took none
taken_by_hint : (reply : Reply) → is_hinted reply ≡ true → taken_by reply ≡ 0
taken_by_hint (Reply.Data rung bytes) hinted = refl
taken_by_hint (Reply.Drained pages) hinted = absurd (cc)
taken_by_hint Reply.Ok hinted = refl
taken_by_hint Reply.Full hinted = refl
taken_by_hint Reply.ReadOnly hinted = refl
taken_by_hint (Reply.DieFault die) hinted = refl
taken_by_hint Reply.Empty hinted = refl
taken_by_hint Reply.Uncorrectable hinted = refl
taken_by_hint Reply.Moved hinted = refl
taken_by_hint Reply.Changed hinted = refl
taken_by_hint Reply.NoRoom hinted = refl
taken_by_hint Reply.Failed hinted = refl
taken_by_hint (Reply.Collected sb) hinted = refl
taken_by_hint (Reply.Retired sb) hinted = refl
taken_by_hint Reply.Idle hinted = refl

-- how many wait after a reply, by whether it is a hint and whether there was room for it
pub record IsWaitingAfter (left waiting : ℕ) (reply : Reply) : Type 0 where
  pub left_is : left ≡ waiting_after reply waiting
  pub taken : taken_by reply ≤ waiting

module _ (left waiting dropped : ℕ) (reply : Reply) where
  by_put : {b : Bool} → is_put reply waiting ≡ b →
      waiting_after reply waiting ≡ elim b [ true ↦ waiting + 1 | false ↦ waiting - taken_by reply ]
  by_put e = ap {B = ℕ} (λ (b : Bool). elim b [ true ↦ waiting + 1 | false ↦ waiting - taken_by reply ]) e

  by_dropped : {b : Bool} → is_dropped reply waiting ≡ b →
      dropped_after reply waiting dropped ≡ elim b [ true ↦ dropped + 1 | false ↦ dropped ]
  by_dropped e = ap {B = ℕ} (λ (b : Bool). elim b [ true ↦ dropped + 1 | false ↦ dropped ]) e

  one_is : {b : Bool} → is_hinted reply ≡ b → one_hint reply ≡ cond b 1 0
  one_is e = ap {B = ℕ} (λ (b : Bool). cond b 1 0) e

  abbrev AreCounted : Type 0
  AreCounted = left + dropped_after reply waiting dropped + taken_by reply ≡ waiting + dropped + one_hint reply

  no_hint : is_hinted reply ≡ false → AreCounted → IsWaitingAfter left waiting reply
  no_hint none counted =
      let put : is_put reply waiting ≡ false = ap (λ (b : Bool). b && nat_lt waiting most_hints) none in
      let drops : is_dropped reply waiting ≡ false = ap (λ (b : Bool). b && not (nat_lt waiting most_hints)) none in
      let after = by_put put in
      let dropped_is = by_dropped drops in
      let one = one_is none in
      record { left_is = omega (arith, counted, after, dropped_is, one); taken = omega (arith, counted, dropped_is, one) }

  hint_with_room : is_hinted reply ≡ true → nat_lt waiting most_hints ≡ true → AreCounted → IsWaitingAfter left waiting reply
  hint_with_room hinted room counted =
      let put : is_put reply waiting ≡ true = λ i. hinted i && room i in
      let drops : is_dropped reply waiting ≡ false = λ i. hinted i && not (room i) in
      let after = by_put put in
      let dropped_is = by_dropped drops in
      let one = one_is hinted in
      let none = taken_by_hint reply hinted in
      record { left_is = omega (arith, counted, after, dropped_is, one, none); taken = omega (arith, none) }

  hint_without_room : is_hinted reply ≡ true → nat_lt waiting most_hints ≡ false → AreCounted → IsWaitingAfter left waiting reply
  hint_without_room hinted full counted =
      let put : is_put reply waiting ≡ false = λ i. hinted i && full i in
      let drops : is_dropped reply waiting ≡ true = λ i. hinted i && not (full i) in
      let after = by_put put in
      let dropped_is = by_dropped drops in
      let one = one_is hinted in
      let none = taken_by_hint reply hinted in
      record { left_is = omega (arith, counted, after, dropped_is, one, none); taken = omega (arith, none) }

  waiting_is : AreCounted → IsWaitingAfter left waiting reply
  waiting_is = by_hint (is_hinted reply) refl
    where
      by_room : (b : Bool) → is_hinted reply ≡ true → nat_lt waiting most_hints ≡ b → AreCounted →
          IsWaitingAfter left waiting reply
      by_room true hinted e = hint_with_room hinted e
      by_room false hinted e = hint_without_room hinted e

      by_hint : (b : Bool) → is_hinted reply ≡ b → AreCounted → IsWaitingAfter left waiting reply
      by_hint true e = by_room (nat_lt waiting most_hints) e refl
      by_hint false e = no_hint e

-- no more than one is dropped
pub dropped_at_most : (reply : Reply) (waiting dropped : ℕ) → dropped_after reply waiting dropped ≤ dropped + 1
dropped_at_most reply waiting dropped = by_test (is_dropped reply waiting)
  where
    by_test : (b : Bool) → (elim b [ true ↦ dropped + 1 | false ↦ dropped ]) ≤ dropped + 1
    by_test true = omega arith
    by_test false = omega arith

-- ---- the calls

-- a vector that was lent as a slice is as long as before
pub as_long : (len count : ℕ) (new items : List ℕ) → len ≡ length items →
    length new ≡ length items → length items ≡ count →
    length (take len (new ++ drop (length new) items)) ≡ count
as_long len count new items is kept long =
    let more = length-append new (drop (length new) items) in
    let rest = length-drop (length new) items in
    let all = length-take-le len (new ++ drop (length new) items) (omega (arith, more, is, kept)) in
    omega (arith, all, is, long)

-- the calls around one
around : (calls : List TraceCall) (n : ℕ) (call : TraceCall) → n < length calls →
    call ≡ slice_index_or calls n call → calls ≡ take n calls ++ call ∷ drop (suc n) calls
around calls n call low is =
    sym (take-append-drop n calls) ∙ ap {B =
    List TraceCall} (λ (list : List TraceCall). take n calls ++ list)
    (drop-cons calls n call low)
    ∙ ap {B = List TraceCall} (λ (here : TraceCall). take n calls ++ here ∷ drop (suc n) calls)
    (sym is)

module _ (worker : WorkerState) (old : List SeenChannel) (trace : Trace) where
  -- after the last call all were served
  pub runs_whole : (new : List SeenChannel) (replies : List (List Reply)) (hints : List ℕ) (dropped n : ℕ)
      (calls : List TraceCall) → calls ≡ trace.calls → length calls ≤ n →
      RunsTo worker old new trace (take n trace.calls) replies hints dropped →
      (job : Job) → job.input.calls ≡ trace → IsRunning job worker old [] (replicate trace.actors []) [] 0 →
      IsRunning job worker new job.input.calls.calls replies hints dropped
  runs_whole new replies hints dropped n calls are high runs job is_trace began =
      let all : take n trace.calls ≡ job.input.calls.calls =
      take_all n trace.calls (subst (λ list. length list ≤ n) are high) ∙ sym (ap (λ (other : Trace). other.calls) is_trace) in
      subst (λ done. IsRunning job worker new done replies hints dropped) all (runs job is_trace began)

  module _ (here : WorkerState) (stays : here ≡ worker) (new : List SeenChannel) (replies : List (List Reply)) (hints : List ℕ)
      (dropped n : ℕ) (calls : List TraceCall) (are : calls ≡ trace.calls) (call : TraceCall)
      (runs : RunsTo worker old new trace (take n trace.calls) replies hints dropped) (within : n < length calls)
      (there : call ≡ slice_index_or calls n call) where
    low : n < length trace.calls
    low = subst (λ list. n < length list) are within

    is : call ≡ slice_index_or trace.calls n call
    is = subst (λ list. call ≡ slice_index_or list n call) are there

    split : (job : Job) → job.input.calls ≡ trace →
        job.input.calls.calls ≡ take n trace.calls ++ call ∷ drop (suc n) trace.calls
    split job is_trace = ap (λ (other : Trace). other.calls) is_trace ∙ around trace.calls n call low is

    -- what the run has come to, seen by the worker that there is
    runs_here : (job : Job) → job.input.calls ≡ trace → IsRunning job worker old [] (replicate trace.actors []) [] 0 →
        IsRunning job here new (take n trace.calls) replies hints dropped
    runs_here job is_trace began =
        subst (λ w. IsRunning job w new (take n trace.calls) replies hints dropped) (sym stays) (runs job is_trace began)

    -- the next call may be served
    pub may_serve : BeginsRun worker old trace → MayServe here new hints call
    may_serve begins =
        Running.may_serve begins.job here new (take n trace.calls) replies hints dropped
        (runs_here begins.job begins.is_trace begins.running) call (drop (suc n) trace.calls) (split begins.job begins.is_trace)

    -- its actor is one of the trace
    pub actor_is_low : BeginsRun worker old trace → call.tag.actor < length replies
    actor_is_low begins =
        let running = runs begins.job begins.is_trace begins.running in
        let numbered =
        subst (λ list. AreNumberedAfter begins.job.input.calls.actors [] list) (split begins.job begins.is_trace)
        running.is_served_from.numbered in
        let number =
        (numbered_back begins.job.input.calls.actors [] (take n trace.calls) (call ∷ drop (suc n) trace.calls) numbered).0 in
        let is_actor = number.is_actor in
        let many = running.has_led_to.has_served.as_many_actors in
        omega (arith, is_actor, many)

    -- served, it leads the run on
    pub one_more_call : (after : List SeenChannel) (left : List ℕ) (reply : Reply) →
        IsServed here new after hints left call reply →
        RunsTo worker old after trace (take (n + 1) trace.calls) (with_reply replies call.tag.actor reply) left
        (dropped_after reply (length hints) dropped)
    one_more_call after left reply serves job is_trace began =
        let more : take (n + 1) trace.calls ≡ take n trace.calls ++ call ∷ [] =
        take_more trace.calls n call low
        ∙ ap {B = List TraceCall} (λ (next : TraceCall). take n trace.calls ++ next ∷ []) (sym is) in
        let goes =
        Running.goes_on job here new (take n trace.calls) replies hints dropped (runs_here job is_trace began) call
        (drop (suc n) trace.calls) (split job is_trace) after left reply serves in
        subst (λ w. IsRunning job w after (take (n + 1) trace.calls) (with_reply replies call.tag.actor reply) left
        (dropped_after reply (length hints) dropped)) stays
        (subst (λ done. IsRunning job here after done (with_reply replies call.tag.actor reply) left
        (dropped_after reply (length hints) dropped)) (sym more) goes)

    -- where it finds no room in a history, the run stops
    pub runs_stop : (after : List SeenChannel) (left : List ℕ) (channel entries : ℕ) →
        IsStopped here new after hints left call channel entries → (job : Job) → job.input.calls ≡ trace →
        IsRunning job worker old [] (replicate trace.actors []) [] 0 → HasStopped job worker after replies dropped channel entries
    runs_stop after left channel entries stopped job is_trace began =
        subst (λ w. HasStopped job w after replies dropped channel entries) stays
        (Running.stops job here new (take n trace.calls) replies hints dropped (runs_here job is_trace began) call
        (drop (suc n) trace.calls) (split job is_trace) after left channel entries stopped)

    -- its reply took no more hints than waited, and tells how many wait after it
    pub hints_wait : BeginsRun worker old trace → (after : List SeenChannel) (left : List ℕ) (reply : Reply) →
        IsServed here new after hints left call reply → IsWaitingAfter (length left) (length hints) reply
    hints_wait begins after left reply serves =
        let counted = (runs begins.job begins.is_trace begins.running).has_led_to.hints_counted in
        let counted_after =
        (one_more_call after left reply serves begins.job begins.is_trace begins.running).has_led_to.hints_counted in
        let more = hints_with_more replies call.tag.actor reply (actor_is_low begins) in
        let taken = taken_with_more replies call.tag.actor reply (actor_is_low begins) in
        waiting_is (length left) (length hints) dropped reply (omega (arith, counted, counted_after, more, taken))
