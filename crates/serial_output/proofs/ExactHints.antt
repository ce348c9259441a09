-- The queue of hints of a serial run is exact: what one call makes of it, call after call.
use Rattle.std.proofs.Common.{ℕ, zero, suc, ◌≡◌, ◌≤◌, ◌+◌, ◌-◌, false, List, [], ◌∷◌, ◌++◌, length, Option, Some, refl, sym, ap, subst, ◌∙◌, append_assoc, append-nil, arith, length-append}
use Rattle.std.specs.Prelude.{All, slice_get}
use Rattle.std.specs.Option.{ForSome}
use Rattle.std.proofs.lemmas.List.Elements.{All-head, All-tail}
use Rattle.ssd_histories.specs.CallsInOrder.{AreNumberedAfter, ChannelRun, IsReplyOf, reply_to}
use Rattle.ssd_histories.specs.History.{is_same_tag}
use Rattle.ssd_histories.specs.SerialHistory.{AreServed, SerialCall, SerialState, first_state, most_hints, none_left, serves}
use Rattle.ssd_geo.specs.declared.reply.Reply.{Reply}
use Rattle.ssd_geo.specs.declared.tag.Tag.{Tag}
use Rattle.ssd_geo.specs.declared.trace.TraceCall.{TraceCall}
use Rattle.serial_laws.proofs.GrownPasts.{steps_stay}
use Rattle.serial_laws.proofs.Lists.{Pairwise, pairs_flip, pairs_join, pairs_same, pairs_weaker}
use Rattle.serial_laws.proofs.MadeCalls.{HasNoSteps, IsGrownRun}
use Rattle.serial_laws.proofs.MovedReplies.{HasSameSteps, reply_moves}
use Rattle.serial_laws.proofs.NumberedTags.{IsBelow, counts_grow, counts_in, later_tag, numbered_back, numbered_front, numbers_are_below, other_way}
use Rattle.serial_laws.proofs.ServedChains.{HoldsSoFar, none_so_far, nothing_served, serves_next}
use Rattle.serial_laws.proofs.ServedVerbs.{IsCallMade, call_is_made}
use Rattle.serial_output.specs.ExactHints.{HintsAreTakenInOrder, SerialHintsAreExact, count_dropped, dropped_of, hint_by, kept_of, pages_by, pages_kept, pages_taken}
use Rattle.serial_output.proofs.TakenPages.{MovesQueue, call_moves}

-- the queue after some calls, by the queue before them
pub record MovesQueueOver (replies : List (List Reply)) (calls : List TraceCall) (before after : SerialState) : Type 0 where
  pub in_order : pages_taken replies calls ++ after.hints ≡ before.hints ++ pages_kept replies (length before.hints) calls
  pub dropped : after.dropped ≡ before.dropped + count_dropped replies (length before.hints) calls
  pub few : length after.hints ≤ most_hints

-- one call, and then others
module _ (replies : List (List Reply)) (call : TraceCall) (calls : List TraceCall) (before between after : SerialState)
    (one : MovesQueue (reply_to replies call.tag) call.verb before between)
    (later : MovesQueueOver replies calls between after) where
  abbrev taken : List ℕ
  taken = pages_by (reply_to replies call.tag) call.verb

  abbrev kept : List ℕ
  kept = kept_of (length before.hints) (hint_by (reply_to replies call.tag) call.verb)

  as_many_wait : length between.hints ≡ length before.hints + length kept - length taken
  as_many_wait =
      let same : length (taken ++ between.hints) ≡ length (before.hints ++ kept) =
      ap (λ (list : List ℕ). length list) one.in_order in
      let first = length-append taken between.hints in
      let second = length-append before.hints kept in
      omega (arith, same, first, second)

  abbrev dropped_here : ℕ
  dropped_here = dropped_of (length before.hints) (hint_by (reply_to replies call.tag) call.verb)

  moves_over_both : MovesQueueOver replies (call ∷ calls) before after
  moves_over_both = record {
    in_order =
        append_assoc taken (pages_taken replies calls) after.hints
        ∙ ap (λ (list : List ℕ). taken ++ list) later.in_order
        ∙ sym (append_assoc taken between.hints (pages_kept replies (length between.hints) calls))
        ∙ ap (λ (list : List ℕ). list ++ pages_kept replies (length between.hints) calls) one.in_order
        ∙ append_assoc before.hints kept (pages_kept replies (length between.hints) calls)
        ∙ ap (λ (n : ℕ). before.hints ++ (kept ++ pages_kept replies n calls)) as_many_wait;
    dropped =
        let first : between.dropped ≡ before.dropped + dropped_here = one.dropped in
        let second : after.dropped ≡ between.dropped + count_dropped replies (length between.hints) calls = later.dropped in
        let moved : count_dropped replies (length between.hints) calls
        ≡ count_dropped replies (length before.hints + length kept - length taken) calls =
        ap (λ (n : ℕ). count_dropped replies n calls) as_many_wait in
        omega (arith, first, second, moved);
    few = later.few;
  }

-- a call keeps its steps where others add theirs
pub same_steps : (other tag : Tag) → is_same_tag other tag ≡ false → (run next : ChannelRun) → IsGrownRun tag run next →
    HasSameSteps other run next
same_steps other tag differs run next more = record {
  same_start = more.same_start;
  same_steps = steps_stay other tag run.past next.past differs more.grown;
}

steps_joined : (tag : Tag) (run between next : ChannelRun) → HasSameSteps tag run between → HasSameSteps tag between next →
    HasSameSteps tag run next
steps_joined tag run between next first second = record {
  same_start = second.same_start ∙ first.same_start;
  same_steps = second.same_steps ∙ first.same_steps;
}

pub steps_back : (tag : Tag) (run next : ChannelRun) → HasSameSteps tag run next → HasSameSteps tag next run
steps_back tag run next same = record { same_start = sym same.same_start; same_steps = sym same.same_steps }

module _ (contents : List (Tag × List ℕ)) (replies : List (List Reply)) (channels actors : ℕ) where
  -- what is known where a call comes next
  record ComesNext (done calls : List TraceCall) (call : TraceCall) (before between : SerialState) : Type 0 where
    runs : Pairwise (IsGrownRun call.tag) before.channels between.channels
    so_far : HoldsSoFar contents channels (done ++ call ∷ []) between.channels
    late : counts_in done call.tag.actor ≤ call.tag.call
    below : IsBelow (counts_in (done ++ call ∷ [])) call.tag
    numbered : AreNumberedAfter actors [] ((done ++ call ∷ []) ++ calls)

  comes_next : (done calls : List TraceCall) (call : TraceCall) (reply : Reply) (before between : SerialState) →
      AreNumberedAfter actors [] (done ++ call ∷ calls) → HoldsSoFar contents channels done before.channels →
      SerialCall contents channels call.tag reply call.verb before between →
      ComesNext done calls call before between
  comes_next done calls call reply before between numbered so_far made =
      let below : All (λ other. IsBelow (counts_in done) other.tag) done =
      numbers_are_below actors [] done (numbered_front actors [] done (call ∷ calls) numbered) in
      let own = (numbered_back actors [] done (call ∷ calls) numbered).0 in
      let number = own.is_number in
      let late : counts_in done call.tag.actor ≤ call.tag.call = omega (arith, number) in
      let none : HasNoSteps call.tag before.channels = none_so_far done before.channels call.tag below so_far.known late in
      let whole : IsCallMade contents call before.channels between.channels =
      call_is_made contents channels call.tag before so_far.as_many none reply call.verb between made in
      record {
        runs = whole.runs;
        so_far = serves_next contents replies channels actors done calls before between call numbered so_far (λ none. whole);
        late = late;
        below =
            All-head (λ (other : TraceCall). IsBelow (counts_in (done ++ call ∷ [])) other.tag) call []
            (numbers_are_below actors done (call ∷ []) (own, tt));
        numbered = subst (λ list. AreNumberedAfter actors [] list) (sym (append_assoc done (call ∷ []) calls)) numbered;
      }

  -- the steps of a call stay while those after it are served
  rest_keeps : (other : Tag) (done : List TraceCall) {calls : List TraceCall} {before after : SerialState} →
      AreServed contents replies channels calls before after → AreNumberedAfter actors [] (done ++ calls) →
      HoldsSoFar contents channels done before.channels → IsBelow (counts_in done) other →
      Pairwise (HasSameSteps other) before.channels after.channels
  rest_keeps other done {before = before} none_left numbered so_far low =
      pairs_same (HasSameSteps other) (λ run. record { same_start = refl; same_steps = refl }) before.channels
  rest_keeps other done {before = before} {after = after}
      (serves {call = call} {calls = calls} {reply = reply} {between = between} is made rest) numbered so_far low =
      let next : ComesNext done calls call before between =
      comes_next done calls call reply before between numbered so_far made in
      let grown = counts_grow done (call ∷ []) other.actor in
      pairs_join (HasSameSteps other) (HasSameSteps other) (HasSameSteps other) (steps_joined other)
      before.channels between.channels after.channels
      (pairs_weaker (IsGrownRun call.tag) (HasSameSteps other)
      (same_steps other call.tag (other_way call.tag other (later_tag (counts_in done) call.tag other next.late low)))
      before.channels between.channels next.runs)
      (rest_keeps other (done ++ call ∷ []) rest next.numbered next.so_far (omega (arith, low, grown)))

  -- so the queue moves on by each call's own reply
  pub served_moves : (done : List TraceCall) {calls : List TraceCall} {before after : SerialState} →
      AreServed contents replies channels calls before after → AreNumberedAfter actors [] (done ++ calls) →
      HoldsSoFar contents channels done before.channels →
      All (λ call. ForSome (reply_to replies call.tag) (IsReplyOf contents after.channels call)) calls →
      length before.hints ≤ most_hints → MovesQueueOver replies calls before after
  served_moves done {before = before} none_left numbered so_far are few = record {
    in_order = sym (append-nil before.hints);
    dropped = omega arith;
    few = few;
  }
  served_moves done {before = before} {after = after}
      (serves {call = call} {calls = calls} {reply = reply} {between = between} is made rest) numbered so_far are few =
      let next : ComesNext done calls call before between =
      comes_next done calls call reply before between numbered so_far made in
      let fact : TraceCall → Type 0 = λ other. ForSome (reply_to replies other.tag) (IsReplyOf contents after.channels other) in
      let keeps : Pairwise (HasSameSteps call.tag) between.channels after.channels =
      rest_keeps call.tag (done ++ call ∷ []) rest next.numbered next.so_far next.below in
      let own : IsReplyOf contents between.channels call reply =
      reply_moves contents call.tag after.channels between.channels
      (pairs_flip (HasSameSteps call.tag) (HasSameSteps call.tag) (steps_back call.tag) between.channels after.channels keeps)
      reply call.verb (All-head fact call calls are reply is) in
      let one : MovesQueue (Some reply) call.verb before between =
      call_moves contents channels call.tag reply before between few next.so_far.as_many call.verb made own in
      let told : MovesQueue (reply_to replies call.tag) call.verb before between =
      subst (λ (option : Option Reply). MovesQueue option call.verb before between) (sym is) one in
      moves_over_both replies call calls before between after told
      (served_moves (done ++ call ∷ []) rest next.numbered next.so_far (All-tail fact call calls are) one.few)

pub serial_hints_are_exact : SerialHintsAreExact
serial_hints_are_exact contents starts actors calls replies after numbered run =
    let moved : MovesQueueOver replies calls (first_state starts) after =
    served_moves contents replies (length starts) actors [] run.are_served numbered (nothing_served contents starts)
    run.are_replies.are_replies (omega arith) in
    record {
      in_order = moved.in_order;
      dropped = let same = moved.dropped in omega (arith, same);
      few = moved.few;
    }

-- an item of the front of a list is the list's item there
at_front : (n page : ℕ) (pages rest : List ℕ) → slice_get pages n ≡ Some page → slice_get (pages ++ rest) n ≡ Some page
at_front n page [] rest is = absurd (grind arith)
at_front zero page (first ∷ pages) rest is = is
at_front (suc n) page (first ∷ pages) rest is = at_front n page pages rest is

pub hints_are_taken_in_order : HintsAreTakenInOrder
hints_are_taken_in_order contents starts actors calls replies after numbered run n page is =
    let exact = serial_hints_are_exact contents starts actors calls replies after numbered run in
    subst (λ (list : List ℕ). slice_get list n ≡ Some page) exact.in_order
    (at_front n page (pages_taken replies calls) after.hints is)
