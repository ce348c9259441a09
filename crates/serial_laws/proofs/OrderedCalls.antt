-- Calls that were served one after the other are in order, with those that weren't begun after them, and with one that was
-- cut between.
use Rattle.std.proofs.Common.{ℕ, ◌≡◌, ◌≤◌, ◌<◌, true, cond, List, [], ◌∷◌, ◌++◌, length, None, sym, ap, subst, inl, inr, append_assoc, append-nil, eq-eqb, eqb-true, arith}
use Rattle.std.specs.Prelude.{◌==◌, All, IsTrue, nat_lt}
use Rattle.std.specs.List.{list_all}
use Rattle.std.proofs.lemmas.Bool.{cases_eq, ltb-false, ltb-true, false_from_ne_true}
use Rattle.std.proofs.lemmas.List.Elements.{All-append, All-cons, All-head, All-tail, All-weaker}
use Rattle.std.proofs.lemmas.List.Sums.{sum_by_push}
use Rattle.ssd_histories.specs.CallsInOrder.{AreCallsInOrder, AreNumberedAfter, ChannelRun, IsAsAnswered, IsWhole, answered_by, is_left, is_of_call, reply_to}
use Rattle.ssd_histories.specs.SerialHistory.{AreServed, SerialState, first_state}
use Rattle.ssd_histories.specs.SerialStop.{IsSerialStop}
use Rattle.ssd_histories.specs.Start.{Start}
use Rattle.ssd_geo.specs.declared.reply.Reply.{Reply}
use Rattle.ssd_geo.specs.declared.tag.Tag.{Tag}
use Rattle.ssd_geo.specs.declared.trace.TraceCall.{TraceCall}
use Rattle.serial_laws.specs.SerialOrder.{SerialCallsAreInOrder, SerialStopsAreInOrder, ServedFrontsAreInOrder}
use Rattle.serial_laws.proofs.GrownPasts.{known_with_more}
use Rattle.serial_laws.proofs.Lists.{all_both}
use Rattle.serial_laws.proofs.MadeCalls.{HasNoSteps}
use Rattle.serial_laws.proofs.NumberedTags.{IsBelow, IsLate, are_late, counts_in, numbered_back, numbered_front, numbers_are_below}
use Rattle.serial_laws.proofs.ServedChains.{HoldsSoFar, IsAnswered, all_answered, all_served, known_with_call, none_so_far, nothing_served, order_with_call, whole_with_call}
use Rattle.serial_laws.proofs.ServedVerbs.{IsCallCut, call_is_cut}
use Rattle.serial_laws.proofs.UnbegunCalls.{as_answered, as_first, as_unanswered, begun_with_none, looks_are_left, no_reply_is}

-- a call is as its place among its actor's says
abbrev IsPlaced : List (Tag × List ℕ) → List (List Reply) → List ChannelRun → TraceCall → Type 0
IsPlaced contents replies runs call =
    IsAsAnswered contents runs (nat_lt call.tag.call (answered_by replies call.tag.actor))
    (call.tag.call == answered_by replies call.tag.actor) call

module _ (contents : List (Tag × List ℕ)) (replies : List (List Reply)) (runs : List ChannelRun) where
  -- those that were served, and those that come later
  served_are : (done : List TraceCall) → All (IsAnswered replies) done → All (IsWhole contents runs) done →
      All (IsPlaced contents replies runs) done
  served_are done answered whole =
      all_both (IsAnswered replies) (IsWhole contents runs) (IsPlaced contents replies runs)
      (λ call is made.
      as_answered contents runs (nat_lt call.tag.call (answered_by replies call.tag.actor))
      (call.tag.call == answered_by replies call.tag.actor) call is made)
      done answered whole

  later_are : (actors : ℕ) (done rest : List TraceCall) → AreNumberedAfter actors [] (done ++ rest) →
      All (λ run. IsTrue (list_all (is_of_call done) run.past)) runs → All (λ call. reply_to replies call.tag ≡ None) rest →
      All (IsPlaced contents replies runs) rest
  later_are actors done rest numbered known none =
      all_both (IsLate (counts_in done)) (λ call. reply_to replies call.tag ≡ None) (IsPlaced contents replies runs) place rest
      (are_late actors done rest (numbered_back actors [] done rest numbered)) none
    where
      below : All (λ call. IsBelow (counts_in done) call.tag) done
      below = numbers_are_below actors [] done (numbered_front actors [] done rest numbered)

      place : (call : TraceCall) → IsLate (counts_in done) call → reply_to replies call.tag ≡ None →
          IsPlaced contents replies runs call
      place call late no_reply =
          let no_step : HasNoSteps call.tag runs = none_so_far done runs call.tag below known late in
          as_unanswered contents runs (nat_lt call.tag.call (answered_by replies call.tag.actor))
          (call.tag.call == answered_by replies call.tag.actor) call
          (no_reply_is replies call.tag no_reply)
          (begun_with_none contents runs call no_step (looks_are_left (counts_in done) done runs call.tag late below known))
          no_step

-- the calls that were served, of those that are numbered
module _ (contents : List (Tag × List ℕ)) (starts : List Start) (actors : ℕ) (replies : List (List Reply)) (after : SerialState)
    (served : List TraceCall) (are_served : AreServed contents replies (length starts) served (first_state starts) after) where
  hold : AreNumberedAfter actors [] served → HoldsSoFar contents (length starts) served after.channels
  hold numbered = all_served contents replies (length starts) actors [] are_served numbered (nothing_served contents starts)

  answered : All (IsAnswered replies) served
  answered = all_answered contents replies (length starts) are_served

pub serial_calls_are_in_order : SerialCallsAreInOrder
serial_calls_are_in_order contents starts actors calls replies after numbered are_served =
    let so_far : HoldsSoFar contents (length starts) calls after.channels =
    hold contents starts actors replies after calls are_served numbered in
    record {
      known = so_far.known;
      in_order = so_far.in_order;
      made =
          served_are contents replies after.channels calls
          (answered contents starts actors replies after calls are_served) so_far.are_whole;
    }

pub served_fronts_are_in_order : ServedFrontsAreInOrder
served_fronts_are_in_order contents starts actors served rest replies after numbered are_served none =
    let so_far : HoldsSoFar contents (length starts) served after.channels =
    hold contents starts actors replies after served are_served (numbered_front actors [] served rest numbered) in
    record {
      known =
          All-weaker (λ (run : ChannelRun). IsTrue (list_all (is_of_call served) run.past))
          (λ (run : ChannelRun). IsTrue (list_all (is_of_call (served ++ rest)) run.past))
          (λ run known. known_with_more served rest run.past known) after.channels so_far.known;
      in_order = so_far.in_order;
      made =
          All-append (IsPlaced contents replies after.channels) served rest
          (served_are contents replies after.channels served
          (answered contents starts actors replies after served are_served) so_far.are_whole)
          (later_are contents replies after.channels actors served rest numbered so_far.known none);
    }

-- where each of some calls has a reply, its actor has at least as many replies as calls
abbrev HasEnough : List (List Reply) → List TraceCall → ℕ → Type 0
HasEnough replies calls actor = counts_in calls actor ≤ answered_by replies actor

one_enough : (replies : List (List Reply)) (actors : ℕ) (before : List TraceCall) (call : TraceCall) (actor : ℕ) →
    call.tag.call ≡ counts_in before call.tag.actor → IsAnswered replies call → HasEnough replies before actor →
    HasEnough replies (before ++ call ∷ []) actor
one_enough replies actors before call actor number has enough =
    let more = sum_by_push (λ (other : TraceCall). cond (other.tag.actor == actor) 1 0) before call in
    elim (cases_eq call.tag.actor actor) [
      | inl same ↦
          let low : call.tag.call < answered_by replies call.tag.actor =
          ltb-true call.tag.call (answered_by replies call.tag.actor) has in
          let lengths : answered_by replies call.tag.actor ≡ answered_by replies actor = ap (answered_by replies) same in
          let counts : counts_in before call.tag.actor ≡ counts_in before actor = ap (counts_in before) same in
          let own : ◌≡◌ {A = ℕ} (cond (call.tag.actor == actor) 1 0) 1 =
          ap {B = ℕ} (λ b. cond b 1 0) (eq-eqb call.tag.actor actor same) in
          omega (arith, more, low, lengths, counts, own, number)
      | inr other ↦
          let none : ◌≡◌ {A = ℕ} (cond (call.tag.actor == actor) 1 0) 0 =
          ap {B = ℕ} (λ b. cond b 1 0) (false_from_ne_true (call.tag.actor == actor) (λ e. other (eqb-true call.tag.actor actor e))) in
          omega (arith, more, none, enough)
    ]

have_enough : (replies : List (List Reply)) (actors : ℕ) (before calls : List TraceCall) (actor : ℕ) →
    AreNumberedAfter actors before calls → All (IsAnswered replies) calls → HasEnough replies before actor →
    HasEnough replies (before ++ calls) actor
have_enough replies actors before [] actor numbered has enough =
    subst (λ calls. HasEnough replies calls actor) (sym (append-nil before)) enough
have_enough replies actors before (call ∷ calls) actor numbered has enough =
    subst (λ list. HasEnough replies list actor) (append_assoc before (call ∷ []) calls)
    (have_enough replies actors (before ++ call ∷ []) calls actor numbered.1 (All-tail (IsAnswered replies) call calls has)
    (one_enough replies actors before call actor numbered.0.is_number (All-head (IsAnswered replies) call calls has) enough))

-- a run that stopped in a call
module _ (contents : List (Tag × List ℕ)) (starts : List Start) (actors : ℕ) (calls : List TraceCall)
    (replies : List (List Reply)) (after : SerialState)
    (named entries : ℕ) (stop : IsSerialStop contents starts calls replies named entries after)
    (numbered_calls : AreNumberedAfter actors [] calls) where
  no_reply : reply_to replies stop.call.tag ≡ None
  no_reply = All-head (λ (call : TraceCall). reply_to replies call.tag ≡ None) stop.call stop.rest stop.no_replies

  none : All (λ call. reply_to replies call.tag ≡ None) stop.rest
  none = All-tail (λ (call : TraceCall). reply_to replies call.tag ≡ None) stop.call stop.rest stop.no_replies

  numbered : AreNumberedAfter actors [] (stop.served ++ stop.call ∷ stop.rest)
  numbered = subst (λ list. AreNumberedAfter actors [] list) stop.are_calls numbered_calls

  pub numbered_served : AreNumberedAfter actors [] stop.served
  numbered_served = numbered_front actors [] stop.served (stop.call ∷ stop.rest) numbered

  so_far : HoldsSoFar contents (length starts) stop.served stop.before.channels
  so_far = hold contents starts actors replies stop.before stop.served stop.are_served numbered_served

  have_replies : All (IsAnswered replies) stop.served
  have_replies = answered contents starts actors replies stop.before stop.served stop.are_served

  pub below : All (λ call. IsBelow (counts_in stop.served) call.tag) stop.served
  below = numbers_are_below actors [] stop.served numbered_served

  number : stop.call.tag.call ≡ counts_in stop.served stop.call.tag.actor
  number = (numbered_back actors [] stop.served (stop.call ∷ stop.rest) numbered).0.is_number

  pub late : counts_in stop.served stop.call.tag.actor ≤ stop.call.tag.call
  late = omega (arith, number)

  pub cut : IsCallCut contents stop.call stop.before.channels after.channels
  cut =
      call_is_cut contents (length starts) stop.call.tag stop.before so_far.as_many
      (none_so_far stop.served stop.before.channels stop.call.tag below so_far.known late) named entries stop.call.verb after stop.is_cut

  known : All (λ run. IsTrue (list_all (is_of_call (stop.served ++ stop.call ∷ [])) run.past)) after.channels
  known = known_with_call contents (length starts) stop.served stop.before.channels after.channels stop.call so_far below late
      cut.runs

  joined : (stop.served ++ stop.call ∷ []) ++ stop.rest ≡ stop.served ++ stop.call ∷ stop.rest
  joined = append_assoc stop.served (stop.call ∷ []) stop.rest

  is_first : stop.call.tag.call == answered_by replies stop.call.tag.actor ≡ true
  is_first =
      let most : answered_by replies stop.call.tag.actor ≤ stop.call.tag.call =
      ltb-false stop.call.tag.call (answered_by replies stop.call.tag.actor)
      (no_reply_is replies stop.call.tag no_reply) in
      let least : counts_in stop.served stop.call.tag.actor ≤ answered_by replies stop.call.tag.actor =
      have_enough replies actors [] stop.served stop.call.tag.actor numbered_served have_replies (omega arith) in
      eq-eqb stop.call.tag.call (answered_by replies stop.call.tag.actor) (omega (arith, most, least, number))

  made : IsTrue (list_all (is_left stop.call.tag) after.channels) →
      All (IsPlaced contents replies after.channels) (stop.served ++ stop.call ∷ stop.rest)
  made left =
      All-append (IsPlaced contents replies after.channels) stop.served (stop.call ∷ stop.rest)
      (served_are contents replies after.channels stop.served have_replies
      (whole_with_call contents (length starts) stop.served stop.before.channels after.channels stop.call so_far below late
      cut.runs))
      (All-cons (IsPlaced contents replies after.channels) stop.call stop.rest
      (as_first contents after.channels (nat_lt stop.call.tag.call (answered_by replies stop.call.tag.actor))
      (stop.call.tag.call == answered_by replies stop.call.tag.actor) stop.call
      (no_reply_is replies stop.call.tag no_reply) is_first (cut.is_begun left))
      (later_are contents replies after.channels actors (stop.served ++ stop.call ∷ []) stop.rest
      (subst (λ list. AreNumberedAfter actors [] list) (sym joined) numbered)
      known none))

  in_order : IsTrue (list_all (is_left stop.call.tag) after.channels) →
      AreCallsInOrder contents (stop.served ++ stop.call ∷ stop.rest) replies after.channels
  in_order left = record {
    known =
        All-weaker (λ (run : ChannelRun). IsTrue (list_all (is_of_call (stop.served ++ stop.call ∷ [])) run.past))
        (λ (run : ChannelRun). IsTrue (list_all (is_of_call (stop.served ++ stop.call ∷ stop.rest)) run.past))
        (λ run is.
        subst (λ (list : List TraceCall). list_all (is_of_call list) run.past ≡ true) joined
        (known_with_more (stop.served ++ stop.call ∷ []) stop.rest run.past is))
        after.channels known;
    in_order = order_with_call contents (length starts) stop.served stop.before.channels after.channels stop.call so_far below
        late cut.runs;
    made = made left;
  }

pub serial_stops_are_in_order : SerialStopsAreInOrder
serial_stops_are_in_order contents starts actors calls replies named entries after stop numbered left =
    subst (λ list. AreCallsInOrder contents list replies after.channels) (sym stop.are_calls)
    (in_order contents starts actors calls replies after named entries stop numbered left)
