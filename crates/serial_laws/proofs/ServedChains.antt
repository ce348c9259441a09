-- What holds after some calls were served one after the other holds after one more, and so after all of them.
use Rattle.std.proofs.Common.{ℕ, ◌≡◌, ◌≤◌, true, false, List, [], ◌∷◌, ◌++◌, length, Some, refl, sym, ap, subst, ◌∙◌, append_assoc, append-nil, arith}
use Rattle.std.specs.Prelude.{All, IsTrue, map, nat_lt, slice_index_or}
use Rattle.std.specs.List.{list_all}
use Rattle.std.proofs.lemmas.Bool.{lt-ltb}
use Rattle.std.proofs.lemmas.List.Elements.{All-append, All-cons, All-nil, All-weaker}
use Rattle.std.proofs.lemmas.Option.{slice_get_within}
use Rattle.ssd_histories.specs.CallSteps.{CallStep}
use Rattle.ssd_histories.specs.CallsInOrder.{AreCallSteps, AreNumberedAfter, ChannelRun, IsWhole, TookAtMost, answered_by, is_of_call, looks_in_steps, never_fall, reply_to, steps_on}
use Rattle.ssd_histories.specs.History.{is_same_tag}
use Rattle.ssd_histories.specs.SerialHistory.{AreServed, SerialState, none_left, serves}
use Rattle.ssd_histories.specs.Start.{Start}
use Rattle.ssd_geo.specs.declared.reply.Reply.{Reply}
use Rattle.ssd_geo.specs.declared.tag.Tag.{Tag}
use Rattle.ssd_geo.specs.declared.trace.TraceCall.{TraceCall}
use Rattle.serial_laws.proofs.GrownPasts.{fall_never, known_grown, no_steps, past_is_below, steps_stay}
use Rattle.serial_laws.proofs.Lists.{IsPairedAt, Pairwise, all_both, all_numbered, paired_at, pairs_all, pairs_as_many, pairs_sum}
use Rattle.serial_laws.proofs.MadeCalls.{HasNoSteps, IsGrownRun}
use Rattle.serial_laws.proofs.MadeSteps.{faults_in}
use Rattle.serial_laws.proofs.NumberedTags.{IsBelow, counts_in, later_tag, numbered_back, numbered_front, numbers_are_below, other_way}
use Rattle.serial_laws.proofs.ServedVerbs.{IsCallMade, call_is_made}
use Rattle.shared_lemmas.proofs.Lists.{numbered_at}

-- a call that was whole stays so where another adds its entries
pub whole_stays : (contents : List (Tag × List ℕ)) (tag : Tag) (before after : List ChannelRun) (call : TraceCall) →
    Pairwise (IsGrownRun tag) before after → is_same_tag call.tag tag ≡ false → IsWhole contents before call →
    IsWhole contents after call
whole_stays contents tag before after call grown differs whole =
    let same : (run next : ChannelRun) → IsGrownRun tag run next → steps_on call.tag next ≡ steps_on call.tag run =
    λ run next more. steps_stay call.tag tag run.past next.past differs more.grown in
    record {
      on_channels =
          all_numbered (λ item. AreCallSteps contents (length after) call item (steps_on call.tag item.1)) after
          (λ i next is.
          let found : IsPairedAt (IsGrownRun tag) before i next = paired_at (IsGrownRun tag) before after i next grown is in
          let held : AreCallSteps contents (length before) call (i, found.item) (steps_on call.tag found.item) =
          numbered_at (λ item. AreCallSteps contents (length before) call item (steps_on call.tag item.1)) before i found.item
          whole.on_channels found.is_there in
          subst (λ n. AreCallSteps contents n call (i, next) (steps_on call.tag next))
          (sym (pairs_as_many (IsGrownRun tag) before after grown))
          (subst (λ (start : Start). AreCallSteps contents (length before) call (i, record { start = start; past = next.past })
          (steps_on call.tag next)) (sym found.goes.same_start)
          (subst (λ (steps : List CallStep). AreCallSteps contents (length before) call
          (i, record { start = found.item.start; past = next.past }) steps) (sym (same found.item next found.goes))
          held)));
      few =
          subst (TookAtMost call.verb)
          (sym (pairs_sum (IsGrownRun tag) (λ run. looks_in_steps (steps_on call.tag run))
          (λ run next more. ap looks_in_steps (same run next more)) before after grown))
          whole.few;
      one_fault =
          subst (λ n. n ≤ 1)
          (sym (pairs_sum (IsGrownRun tag) (λ run. faults_in (steps_on call.tag run))
          (λ run next more. ap faults_in (same run next more)) before after grown))
          whole.one_fault;
    }

-- what holds of the channels after some calls
pub record HoldsSoFar (contents : List (Tag × List ℕ)) (channels : ℕ) (done : List TraceCall)
    (runs : List ChannelRun) : Type 0 where
  pub as_many : length runs ≡ channels
  pub known : All (λ run. IsTrue (list_all (is_of_call done) run.past)) runs
  pub in_order : All (λ run. IsTrue (never_fall run.past)) runs
  pub are_whole : All (IsWhole contents runs) done

-- a call that comes later has no step on any channel
pub none_so_far : (done : List TraceCall) (runs : List ChannelRun) (tag : Tag) →
    All (λ call. IsBelow (counts_in done) call.tag) done → All (λ run. IsTrue (list_all (is_of_call done) run.past)) runs →
    counts_in done tag.actor ≤ tag.call → HasNoSteps tag runs
none_so_far done runs tag below known late =
    All-weaker (λ (run : ChannelRun). IsTrue (list_all (is_of_call done) run.past))
    (λ (run : ChannelRun). steps_on tag run ≡ [])
    (λ run is. no_steps (counts_in done) tag run.past late (past_is_below (counts_in done) done run.past below is)) runs known

-- the entries of the next call are known and in order, and the calls before it stay whole
module _ (contents : List (Tag × List ℕ)) (channels : ℕ) (done : List TraceCall) (before after : List ChannelRun)
    (call : TraceCall)
    (so_far : HoldsSoFar contents channels done before) (below : All (λ call. IsBelow (counts_in done) call.tag) done)
    (late : counts_in done call.tag.actor ≤ call.tag.call) (grown : Pairwise (IsGrownRun call.tag) before after) where
  pub still_as_many : length after ≡ channels
  still_as_many = pairs_as_many (IsGrownRun call.tag) before after grown ∙ so_far.as_many

  pub known_with_call : All (λ run. IsTrue (list_all (is_of_call (done ++ call ∷ [])) run.past)) after
  known_with_call =
      pairs_all (IsGrownRun call.tag) (λ run. IsTrue (list_all (is_of_call done) run.past))
      (λ run. IsTrue (list_all (is_of_call (done ++ call ∷ [])) run.past))
      (λ run next more known. known_grown done call run.past next.past more.grown known) before after grown so_far.known

  pub order_with_call : All (λ run. IsTrue (never_fall run.past)) after
  order_with_call =
      pairs_all (IsGrownRun call.tag) (λ run. (list_all (is_of_call done) run.past ≡ true) × (never_fall run.past ≡ true))
      (λ run. IsTrue (never_fall run.past))
      (λ run next more held.
      fall_never (counts_in done) call.tag run.past next.past late
      (past_is_below (counts_in done) done run.past below held.0) more.grown held.1)
      before after grown
      (all_both (λ run. IsTrue (list_all (is_of_call done) run.past)) (λ run. IsTrue (never_fall run.past))
      (λ run. (list_all (is_of_call done) run.past ≡ true) × (never_fall run.past ≡ true))
      (λ run known never. (known, never)) before so_far.known so_far.in_order)

  pub whole_with_call : All (IsWhole contents after) done
  whole_with_call =
      all_both (λ other. IsBelow (counts_in done) other.tag) (IsWhole contents before) (IsWhole contents after)
      (λ other low whole.
      whole_stays contents call.tag before after other grown
      (other_way call.tag other.tag (later_tag (counts_in done) call.tag other.tag late low)) whole)
      done below so_far.are_whole

module _ (contents : List (Tag × List ℕ)) (replies : List (List Reply)) (channels actors : ℕ) where
  pub serves_next : (done rest : List TraceCall) (before after : SerialState) (call : TraceCall) →
      AreNumberedAfter actors [] (done ++ call ∷ rest) → HoldsSoFar contents channels done before.channels →
      (HasNoSteps call.tag before.channels → IsCallMade contents call before.channels after.channels) →
      HoldsSoFar contents channels (done ++ call ∷ []) after.channels
  serves_next done rest before after call numbered so_far is_made =
      let below : All (λ call. IsBelow (counts_in done) call.tag) done =
      numbers_are_below actors [] done (numbered_front actors [] done (call ∷ rest) numbered) in
      let number = (numbered_back actors [] done (call ∷ rest) numbered).0.is_number in
      let late : counts_in done call.tag.actor ≤ call.tag.call = omega (arith, number) in
      let made : IsCallMade contents call before.channels after.channels =
      is_made (none_so_far done before.channels call.tag below so_far.known late) in
      record {
        as_many = still_as_many contents channels done before.channels after.channels call so_far below late made.runs;
        known = known_with_call contents channels done before.channels after.channels call so_far below late made.runs;
        in_order = order_with_call contents channels done before.channels after.channels call so_far below late made.runs;
        are_whole =
            All-append (IsWhole contents after.channels) done (call ∷ [])
            (whole_with_call contents channels done before.channels after.channels call so_far below late made.runs)
            (All-cons (IsWhole contents after.channels) call [] made.is_whole (All-nil (IsWhole contents after.channels)));
      }

  -- so it holds after all calls
  pub all_served : (done : List TraceCall) {calls : List TraceCall} {before after : SerialState} →
      AreServed contents replies channels calls before after → AreNumberedAfter actors [] (done ++ calls) →
      HoldsSoFar contents channels done before.channels → HoldsSoFar contents channels (done ++ calls) after.channels
  all_served done {before = before} none_left numbered so_far =
      subst (λ calls. HoldsSoFar contents channels calls before.channels) (sym (append-nil done)) so_far
  all_served done {before = before} {after = after}
      (serves {call = call} {calls = calls} {reply = reply} {between = between} is made rest) numbered so_far =
      subst (λ list. HoldsSoFar contents channels list after.channels) (append_assoc done (call ∷ []) calls)
      (all_served (done ++ call ∷ []) rest
      (subst (λ list. AreNumberedAfter actors [] list) (sym (append_assoc done (call ∷ []) calls)) numbered)
      (serves_next done calls before between call numbered so_far
      (λ none. call_is_made contents channels call.tag before so_far.as_many none reply call.verb between made)))

-- each call that was served has a reply
abbrev pub IsAnswered : List (List Reply) → TraceCall → Type 0
IsAnswered replies call = nat_lt call.tag.call (answered_by replies call.tag.actor) ≡ true

pub has_reply : (replies : List (List Reply)) (call : TraceCall) (reply : Reply) → reply_to replies call.tag ≡ Some reply →
    IsAnswered replies call
has_reply replies call reply is =
    lt-ltb call.tag.call (answered_by replies call.tag.actor)
    (slice_get_within (slice_index_or replies call.tag.actor []) call.tag.call reply is)

pub all_answered : (contents : List (Tag × List ℕ)) (replies : List (List Reply))
    (channels : ℕ) {calls : List TraceCall} {before after : SerialState} →
    AreServed contents replies channels calls before after → All (IsAnswered replies) calls
all_answered contents replies channels none_left = All-nil (IsAnswered replies)
all_answered contents replies channels (serves {call = call} {calls = calls} {reply = reply} is made rest) =
    All-cons (IsAnswered replies) call calls (has_reply replies call reply is) (all_answered contents replies channels rest)

-- before the first call
pub nothing_served : (contents : List (Tag × List ℕ)) (starts : List Start) →
    HoldsSoFar contents (length starts) [] (map (λ start. record { start = start; past = [] }) starts)
nothing_served contents starts = record {
  as_many = as_many starts;
  known = each (λ run. IsTrue (list_all (is_of_call []) run.past)) (λ start. refl) starts;
  in_order = each (λ run. IsTrue (never_fall run.past)) (λ start. refl) starts;
  are_whole = All-nil (IsWhole contents (map (λ start. record { start = start; past = [] }) starts));
}
  where
    as_many : (starts : List Start) → length (map {B = ChannelRun}
        (λ start. record { start = start; past = [] }) starts) ≡ length starts
    as_many [] = refl
    as_many (start ∷ starts) = let rest = as_many starts in omega (arith, rest)

    each : (P : ChannelRun → Type 0) → ((start : Start) → P (record { start = start; past = [] })) → (starts : List Start) →
        All P (map (λ start. record { start = start; past = [] }) starts)
    each P holds [] = All-nil P
    each P holds (start ∷ starts) =
        All-cons P (record { start = start; past = [] }) (map (λ start. record { start = start; past = [] }) starts)
        (holds start)
        (each P holds starts)
