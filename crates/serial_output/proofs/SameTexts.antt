-- Two runs that choose alike have the same pasts, replies and drops, and so print the same text; where each view is told and no
-- die's call failed, they choose alike.
use Rattle.std.proofs.Common.{ℕ, suc, ◌≡◌, ◌<◌, ◌≤◌, ◌+◌, ◌==◌, Bool, true, false, cond, List, [], ◌∷◌, ◌++◌, length, map, Option, Some, None, refl, sym, ap, subst, ◌∙◌, inl, inr, arith, append_assoc, append-nil, eqb-true, ltb-true}
use Rattle.std.specs.Prelude.{All, IsTrue, count_by, is_some, nat_lt, slice_get, slice_index_or}
use Rattle.std.specs.List.{enumerate_from}
use Rattle.std.proofs.Math.ListN.{get_or-eq_default}
use Rattle.std.proofs.lemmas.Bool.{cases_eq, false≢true, ltb-false}
use Rattle.std.proofs.lemmas.List.{ext_get_or}
use Rattle.std.proofs.lemmas.List.Elements.{All-cons, All-head, All-nil, All-tail, All-weaker}
use Rattle.std.proofs.lemmas.List.Sums.{sum_by-append, sum_by-cons}
use Rattle.std.proofs.lemmas.Option.{slice_get-get_or, slice_get_past, same_Some}
use Rattle.ssd_geo.specs.Coding.{coding_of}
use Rattle.ssd_formats.specs.ImageHead.{Head}
use Rattle.ssd_formats.specs.RunText.{run_text}
use Rattle.ssd_formats.specs.TraceText.{contents_of, kinds_of_trace}
use Rattle.ssd_histories.specs.CallsInOrder.{AreNumberedAfter, AreReplies, ChannelRun, IsNumberedAfter, reply_to}
use Rattle.ssd_histories.specs.FollowedViews.{FollowsTold}
use Rattle.ssd_histories.specs.History.{history_of}
use Rattle.ssd_histories.specs.Lawful.{IsLawful}
use Rattle.ssd_histories.specs.PastPages.{ladder_of}
use Rattle.ssd_histories.specs.SerialHistory.{IsSerialRun, SerialState}
use Rattle.ssd_histories.specs.Standing.{IsPastOf, IsStart}
use Rattle.ssd_histories.specs.Start.{Start}
use Rattle.ssd_geo.specs.declared.entry.Entry.{Entry}
use Rattle.ssd_geo.specs.declared.policy_view.PolicyView.{PolicyView}
use Rattle.ssd_geo.specs.declared.reply.Reply.{Reply}
use Rattle.ssd_geo.specs.declared.tag.Tag.{Tag}
use Rattle.ssd_geo.specs.declared.trace.Trace.{Trace}
use Rattle.ssd_geo.specs.declared.trace.TraceCall.{TraceCall}
use Rattle.run_laws.specs.Headline.{AreCounted, Headline, IsWholeRun}
use Rattle.run_laws.specs.Runs.{FaultCounts, Run, channels_of, data_in, runs_with}
use Rattle.run_laws.specs.SerialRuns.{state_of}
use Rattle.run_laws.proofs.ChangedRuns.{run_parts}
use Rattle.run_laws.proofs.CountedFaults.{uncounted_faults_are_none}
use Rattle.serial_laws.proofs.NumberedTags.{counts_in}
use Rattle.serial_output.specs.OneOutput.{AreOfOneInput, AreOneRun, ChoicesDecideOutput, HasNoFault, HaveOneOutput, InputsDecideOutput, NoCountRose, RunsChooseAlike, ViewsDecideOutput}
use Rattle.serial_output.proofs.SameRuns.{choices_decide_runs}
use Rattle.serial_output.proofs.ToldViews.{views_choose_alike}
use Rattle.shared_lemmas.proofs.Lists.{all_at, numbered_at}

-- the pasts and the starts of channels
pasts_of_channels : (starts : List Start) (pasts : List (List Entry)) → length pasts ≡ length starts →
    map (λ (run : ChannelRun). run.past) (runs_with starts pasts) ≡ pasts
pasts_of_channels [] [] many = refl
pasts_of_channels [] (past ∷ pasts) many = absurd (omega arith)
pasts_of_channels (start ∷ starts) [] many = absurd (omega arith)
pasts_of_channels (start ∷ starts) (past ∷ pasts) many =
    ap (λ (list : List (List Entry)). past ∷ list) (pasts_of_channels starts pasts (omega arith))

starts_of_channels : (starts : List Start) (pasts : List (List Entry)) → length pasts ≡ length starts →
    All (λ run. IsStart run.start) (runs_with starts pasts) → All IsStart starts
starts_of_channels [] pasts many all = All-nil IsStart
starts_of_channels (start ∷ starts) [] many all = absurd (omega arith)
starts_of_channels (start ∷ starts) (past ∷ pasts) many all =
    All-cons IsStart start starts
    (All-head (λ (run : ChannelRun). IsStart run.start) (record { start = start; past = past }) (runs_with starts pasts) all)
    (starts_of_channels starts pasts (omega arith)
    (All-tail (λ (run : ChannelRun). IsStart run.start) (record { start = start; past = past }) (runs_with starts pasts) all))

-- lists that have the same items at each place are the same
same_items : {X : Type 0} (xs ys : List X) → ((k : ℕ) → slice_get xs k ≡ slice_get ys k) → xs ≡ ys
same_items [] [] same = refl
same_items [] (y ∷ ys) same = absurd (let first = same 0 in cc)
same_items (x ∷ xs) [] same = absurd (let first = same 0 in cc)
same_items {X} (x ∷ xs) (y ∷ ys) same =
    let first : x ≡ y = same_Some x y (same 0) in
    let rest : xs ≡ ys = same_items xs ys (λ k. same (suc k)) in
    λ i. first i ∷ rest i

-- each number below the count of an actor's calls is that of one of them
module _ (actors actor : ℕ) (P : ℕ → Type 0) where
  abbrev OfActor : TraceCall → Type 0
  OfActor call = call.tag.actor ≡ actor → P call.tag.call

  one_more_call : (before : List TraceCall) (call : TraceCall) →
      counts_in (before ++ call ∷ []) actor ≡ counts_in before actor + cond (call.tag.actor == actor) 1 0
  one_more_call before call =
      let one : TraceCall → ℕ = λ other. cond (other.tag.actor == actor) 1 0 in
      let parts = sum_by-append one before (call ∷ []) in
      let last = sum_by-cons one call [] in
      omega (arith, parts, last)

  -- the next call has the number, or a later one has
  module _ (before : List TraceCall) (call : TraceCall) (numbered : IsNumberedAfter actors before call) (own : OfActor call)
      (k : ℕ) (low : counts_in before actor ≤ k) (later : counts_in (before ++ call ∷ []) actor ≤ k → P k) where
    by_test : (b : Bool) → (call.tag.actor == actor) ≡ b → P k
    by_test true e =
        let is : call.tag.actor ≡ actor = eqb-true call.tag.actor actor e in
        let number : call.tag.call ≡ counts_in before call.tag.actor = numbered.is_number in
        let moved : counts_in before call.tag.actor ≡ counts_in before actor = ap (counts_in before) is in
        elim (cases_eq k (counts_in before actor)) [
          | inl same ↦
              let here : call.tag.call ≡ k = omega (arith, number, moved, same) in
              subst P here (own is)
          | inr other ↦
              let grown = one_more_call before call in
              let one : ◌≡◌ {A = ℕ} (cond (call.tag.actor == actor) 1 0) 1 = ap {B = ℕ} (λ (b : Bool). cond b 1 0) e in
              later (omega (arith, grown, one, low, other))
        ]
    by_test false e =
        let grown = one_more_call before call in
        let none : ◌≡◌ {A = ℕ} (cond (call.tag.actor == actor) 1 0) 0 = ap {B = ℕ} (λ (b : Bool). cond b 1 0) e in
        later (omega (arith, grown, none, low))

    by_next : P k
    by_next = by_test (call.tag.actor == actor) refl

  of_number : (before calls : List TraceCall) → AreNumberedAfter actors before calls → All OfActor calls → (k : ℕ) →
      counts_in before actor ≤ k → k < counts_in (before ++ calls) actor → P k
  of_number before [] numbered all k low high =
      let same : counts_in (before ++ []) actor ≡ counts_in before actor =
      ap (λ (calls : List TraceCall). counts_in calls actor) (append-nil before) in
      absurd (omega (arith, low, high, same))
  of_number before (call ∷ calls) numbered all k low high =
      let joined : counts_in ((before ++ call ∷ []) ++ calls) actor ≡ counts_in (before ++ call ∷ calls) actor =
      ap (λ (list : List TraceCall). counts_in list actor) (append_assoc before (call ∷ []) calls) in
      by_next before call numbered.0 (All-head OfActor call calls all) k low
      (λ enough.
      of_number (before ++ call ∷ []) calls numbered.1 (All-tail OfActor call calls all) k enough
      (omega (arith, high, joined)))

-- the replies of all actors, where those of each call are the same
module _ (actors : ℕ) (calls : List TraceCall) (replies others : List (List Reply))
    (numbered : AreNumberedAfter actors [] calls)
    (same : All (λ call. reply_to replies call.tag ≡ reply_to others call.tag) calls)
    (few : (actor : ℕ) → length (slice_index_or replies actor []) ≤ counts_in calls actor)
    (few_too : (actor : ℕ) → length (slice_index_or others actor []) ≤ counts_in calls actor) where
  module _ (actor : ℕ) where
    abbrev IsSameAt : ℕ → Type 0
    IsSameAt k = slice_get (slice_index_or replies actor []) k ≡ slice_get (slice_index_or others actor []) k

    each : All (OfActor actors actor IsSameAt) calls
    each =
        All-weaker (λ (call : TraceCall). reply_to replies call.tag ≡ reply_to others call.tag)
        (OfActor actors actor IsSameAt)
        (λ call is own.
        subst (λ (n : ℕ). slice_get (slice_index_or replies n []) call.tag.call
        ≡ slice_get (slice_index_or others n []) call.tag.call) own is) calls same

    past_end : (k : ℕ) → counts_in calls actor ≤ k → IsSameAt k
    past_end k high =
        let short = few actor in
        let short_too = few_too actor in
        slice_get_past (slice_index_or replies actor []) k (omega (arith, short, high))
        ∙ sym (slice_get_past (slice_index_or others actor []) k (omega (arith, short_too, high)))

    by_order : (k : ℕ) (b : Bool) → nat_lt k (counts_in calls actor) ≡ b → IsSameAt k
    by_order k true e =
        of_number actors actor IsSameAt [] calls numbered each k (omega arith) (ltb-true k (counts_in calls actor) e)
    by_order k false e = past_end k (ltb-false k (counts_in calls actor) e)

    replies_of_actor : slice_index_or replies actor [] ≡ slice_index_or others actor []
    replies_of_actor =
        same_items (slice_index_or replies actor []) (slice_index_or others actor [])
        (λ k. by_order k (nat_lt k (counts_in calls actor)) refl)

  all_replies_same : length replies ≡ length others → replies ≡ others
  all_replies_same many = ext_get_or [] replies others many (λ actor low. replies_of_actor actor)

-- no more replies than calls, of any actor
few_replies : (calls : List TraceCall) (replies : List (List Reply)) →
    All (λ item. length item.1 ≤ count_by (λ call. call.tag.actor == item.0) calls) (enumerate_from 0 replies) → (actor : ℕ) →
    length (slice_index_or replies actor []) ≤ counts_in calls actor
few_replies calls replies enough actor = by_order (nat_lt actor (length replies)) refl
  where
    by_order : (b : Bool) → nat_lt actor (length replies) ≡ b → length (slice_index_or replies actor []) ≤ counts_in calls actor
    by_order true e =
        numbered_at (λ item. length item.1 ≤ count_by (λ call. call.tag.actor == item.0) calls) replies actor
        (slice_index_or replies actor []) enough
        (slice_get-get_or replies actor [] (ltb-true actor (length replies) e))
    by_order false e =
        let none : slice_index_or replies actor [] ≡ [] = get_or-eq_default replies [] (ltb-false actor (length replies) e) in
        let short = ap (λ (list : List Reply). length list) none in
        omega (arith, short)

-- a whole run is a serial run
pub whole_is_serial : (head : Head) (run : Run) → Headline head run → (whole : IsWholeRun head run) →
    IsSerialRun (data_in head run) run.starts run.calls.calls run.replies
    (record { channels = channels_of run; hints = whole.hints; dropped = run.dropped })
whole_is_serial head run holds whole = record {
  are_served = whole.are_served;
  are_lawful =
      All-weaker (λ (channel : ChannelRun). IsPastOf channel.start (data_in head run) channel.past)
      (λ (channel : ChannelRun). IsLawful channel.start (data_in head run) channel.past) (λ channel past. past.is_lawful)
      (channels_of run) holds.are_pasts;
  are_replies = holds.are_replies;
}

-- two runs of one input
module _ (head : Head) (run other : Run) (input : AreOfOneInput head run other) where
  -- what is said of the other run is said of one with the same starts and calls
  pub as_of_input : (fact : List (Tag × List ℕ) → List Start → List TraceCall → Type 0) →
      fact (data_in head other) other.starts other.calls.calls → fact (data_in head run) run.starts run.calls.calls
  as_of_input fact held =
      subst (λ (trace : Trace). fact (contents_of head.sizes.bytes trace.calls) run.starts trace.calls) (sym input.same_calls)
      (subst (λ (starts : List Start). fact (data_in head other) starts other.calls.calls) (sym input.same_starts) held)

  pub are_starts : All IsStart run.starts
  are_starts =
      starts_of_channels run.starts run.pasts input.holds.as_many_pasts
      (All-weaker (λ (channel : ChannelRun). IsPastOf channel.start (data_in head run) channel.past)
      (λ (channel : ChannelRun). IsStart channel.start) (λ channel past. past.is_start) (channels_of run) input.holds.are_pasts)

  -- where the states at the end and the replies are the same, so is the output
  module _ (hints left : List ℕ)
      (one : AreOneRun run.calls.calls run.replies other.replies (state_of run hints) (state_of other left)) where
    pasts_same : run.pasts ≡ other.pasts
    pasts_same =
        sym (pasts_of_channels run.starts run.pasts input.holds.as_many_pasts)
        ∙ ap (λ (state : SerialState). map (λ (channel : ChannelRun). channel.past) state.channels) one.same_state
        ∙ pasts_of_channels other.starts other.pasts input.holds_too.as_many_pasts

    dropped_same : run.dropped ≡ other.dropped
    dropped_same = ap (λ (state : SerialState). state.dropped) one.same_state

    replies_are_same : run.replies ≡ other.replies
    replies_are_same =
        all_replies_same run.calls.actors run.calls.calls run.replies other.replies input.numbered one.same_replies
        (few_replies run.calls.calls run.replies input.holds.are_replies.enough_calls)
        (few_replies run.calls.calls other.replies
        (as_of_input (λ contents starts calls. AreReplies contents calls other.replies (channels_of other))
        input.holds_too.are_replies).enough_calls)
        (input.holds.as_many_actors ∙ ap (λ (trace : Trace). trace.actors) input.same_calls
        ∙ sym input.holds_too.as_many_actors)

    pub one_output : HaveOneOutput head run other
    one_output = record {
      same_pasts = pasts_same;
      same_replies = replies_are_same;
      same_dropped = dropped_same;
      same_text = λ i.
          run_text true (length head.read_levels) (map history_of (pasts_same i)) (kinds_of_trace (input.same_calls i))
          (replies_are_same i) (dropped_same i);
    }

pub choices_decide_output : ChoicesDecideOutput
choices_decide_output head run other two alike =
    one_output head run other two.one_input two.whole.hints two.whole_too.hints
    (choices_decide_runs (data_in head run) run.starts run.calls.actors run.calls.calls run.replies other.replies
    (state_of run two.whole.hints) (state_of other two.whole_too.hints) (are_starts head run other two.one_input)
    two.one_input.numbered (whole_is_serial head run two.one_input.holds two.whole)
    (as_of_input head run other two.one_input
    (λ contents starts calls. IsSerialRun contents starts calls other.replies (state_of other two.whole_too.hints))
    (whole_is_serial head other two.one_input.holds_too two.whole_too)) alike)

-- a view that is told
record IsTold (view : Option PolicyView) : Type 0 where
  told : PolicyView
  is : view ≡ Some told

is_told : (view : Option PolicyView) → is_some view ≡ true → IsTold view
is_told (Some view) e = record { told = view; is = refl }
is_told None e = absurd (false≢true e)

pub views_alike : (head : Head) (run other : Run) → AreOfOneInput head run other →
    All (λ start. IsTrue (is_some start.view)) run.starts → All HasNoFault (channels_of run) →
    All HasNoFault (channels_of other) → RunsChooseAlike (channels_of run) (channels_of other)
views_alike head run other input told faultless faultless_too channel first second is is_too =
    let parts = run_parts run.starts run.pasts channel first is in
    let parts_too = run_parts other.starts other.pasts channel second is_too in
    let same : first.start ≡ second.start =
    same_Some first.start second.start
    (sym parts.0 ∙ ap (λ (starts : List Start). slice_get starts channel) input.same_starts ∙ parts_too.0) in
    let past : IsPastOf first.start (data_in head run) first.past =
    all_at (λ (one : ChannelRun). IsPastOf one.start (data_in head run) one.past) (channels_of run) channel first
    input.holds.are_pasts is in
    let own : IsPastOf second.start (data_in head other) second.past =
    all_at (λ (one : ChannelRun). IsPastOf one.start (data_in head other) one.past) (channels_of other) channel second
    input.holds_too.are_pasts is_too in
    let past_too : IsPastOf first.start (data_in head run) second.past =
    subst (λ (start : Start). IsPastOf start (data_in head run) second.past) (sym same)
    (subst (λ (trace : Trace). IsPastOf second.start (contents_of head.sizes.bytes trace.calls) second.past)
    (sym input.same_calls) own) in
    let view : IsTold first.start.view =
    is_told first.start.view
    (all_at (λ (start : Start). is_some start.view ≡ true) run.starts channel first.start told parts.0) in
    let none : HasNoFault first = all_at HasNoFault (channels_of run) channel first faultless is in
    let none_too : HasNoFault (record { start = first.start; past = second.past }) =
    subst (λ (start : Start). HasNoFault (record { start = start; past = second.past })) (sym same)
    (all_at HasNoFault (channels_of other) channel second faultless_too is_too) in
    views_choose_alike (ladder_of (coding_of first.start.base) first.start (data_in head run)) first.start.base view.told
    first.past second.past past.is_lawful past_too.is_lawful
    (subst (λ (option : Option PolicyView). FollowsTold first.start.base option first.past) view.is past.follows)
    (subst (λ (option : Option PolicyView). FollowsTold first.start.base option second.past) view.is past_too.follows)
    none none_too

pub views_decide_output : ViewsDecideOutput
views_decide_output head run other two told faultless faultless_too =
    choices_decide_output head run other two (views_alike head run other two.one_input told faultless faultless_too)

-- where no die's count rose no entry tells of a failed call
pub no_faults : (channels : List ChannelRun) (counts : List FaultCounts) → AreCounted channels counts →
    NoCountRose channels counts → All HasNoFault channels
no_faults [] counts counted stay = All-nil HasNoFault
no_faults (channel ∷ more) [] counted stay = absurd counted
no_faults (channel ∷ more) (count ∷ others) counted stay =
    All-cons HasNoFault channel more
    (λ die low. uncounted_faults_are_none channel count die counted.0 low (stay.0 die low).0 (stay.0 die low).1)
    (no_faults more others counted.1 stay.1)

pub inputs_decide_output : InputsDecideOutput
inputs_decide_output head run other two told stay stay_too =
    views_decide_output head run other two told
    (no_faults (channels_of run) run.faults two.one_input.holds.are_counted stay)
    (no_faults (channels_of other) other.faults two.one_input.holds_too.are_counted stay_too)
