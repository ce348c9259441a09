-- The statement on a run from the laws of serial calls and of recovered reads: the calls are in order in the histories, and each
-- read gives the last write, whatever the verbs.
use Rattle.std.proofs.Common.{ℕ, ◌≡◌, ◌+◌, ◌^◌, ◌≤◌, ◌==◌, true, List, [], ◌∷◌, ◌++◌, length, map, refl, sym, ap, subst, append_assoc, arith, length-append}
use Rattle.std.specs.Prelude.{All, is_some}
use Rattle.std.proofs.lemmas.List.Elements.{All-cons, All-head, All-nil, All-tail}
use Rattle.std.proofs.lemmas.List.Sums.{count_by-le-length, list_all-from_AllPass}
use Rattle.recovery_laws.proofs.AnsweredReads.{calls_give_last_writes}
use Rattle.recovery_laws.proofs.StartPages.{starts_have_named_pages}
use Rattle.recovery_laws.specs.ReadReplies.{HasContents, IsTracedRun}
use Rattle.serial_laws.proofs.Lists.{all_both}
use Rattle.serial_laws.proofs.OrderedCalls.{serial_calls_are_in_order, serial_stops_are_in_order}
use Rattle.ssd_formats.specs.HistoryText.{are_spelled_histories}
use Rattle.ssd_formats.specs.ImageHead.{Head}
use Rattle.ssd_formats.specs.TraceText.{contents_of}
use Rattle.ssd_geo.specs.declared.entry.Entry.{Entry}
use Rattle.ssd_geo.specs.declared.reply.Reply.{Reply}
use Rattle.ssd_geo.specs.declared.tag.Tag.{Tag}
use Rattle.ssd_geo.specs.declared.trace.TraceCall.{TraceCall}
use Rattle.ssd_geo.specs.declared.trace.Verb.{Verb}
use Rattle.ssd_histories.specs.CallsInOrder.{AreCallsInOrder, AreNumberedAfter, AreReplies, ChannelRun, reply_to}
use Rattle.ssd_histories.specs.History.{history_of}
use Rattle.ssd_histories.specs.LastWrites.{IsData}
use Rattle.ssd_histories.specs.SerialHistory.{AreServed, SerialState, none_left, serves}
use Rattle.ssd_histories.specs.Standing.{IsPastOf}
use Rattle.ssd_histories.specs.Start.{Start}
use Rattle.run_laws.specs.Headline.{Headline}
use Rattle.run_laws.specs.Runs.{Run, channels_of, data_in, runs_with}
use Rattle.run_laws.specs.SerialRuns.{ChannelsHold, HasCalls, HasData, SerialRunsHold, SerialStopsHold, state_of}
use Rattle.run_laws.specs.Serials.{HasSmallSerials}
use Rattle.run_laws.specs.SpelledPasts.{HasShortPast, IsSmallCall, IsSmallVerb}
use Rattle.run_laws.proofs.ChangedRuns.{runs_as_many}
use Rattle.run_laws.proofs.SpelledRuns.{calls_in_order_are_spelled}
use Rattle.run_laws.proofs.TaggedData.{tags_give_data}

-- the contents of a trace give each write its data
own_contents : (actors count : ℕ) (done rest : List TraceCall) (tag : Tag) (verb : Verb) →
    AreNumberedAfter actors [] (done ++ record { tag = tag; verb = verb } ∷ rest) → HasData count verb →
    HasContents count (contents_of count (done ++ record { tag = tag; verb = verb } ∷ rest)) tag verb
own_contents actors count done rest tag (Verb.Write page content) numbered has =
    subst (IsData count) (sym (tags_give_data actors count done rest tag page content numbered)) has
own_contents actors count done rest tag (Verb.Read page) numbered has = tt
own_contents actors count done rest tag (Verb.Trim page) numbered has = tt
own_contents actors count done rest tag (Verb.Refresh page) numbered has = tt
own_contents actors count done rest tag (Verb.Collect channel) numbered has = tt
own_contents actors count done rest tag (Verb.Drain hints) numbered has = tt
own_contents actors count done rest tag (Verb.Age channel die sb amount) numbered has = tt

all_contents : (actors count : ℕ) (done rest : List TraceCall) → AreNumberedAfter actors [] (done ++ rest) →
    All (λ call. HasData count call.verb) rest →
    All (λ call. HasContents count (contents_of count (done ++ rest)) call.tag call.verb) rest
all_contents actors count done [] numbered have =
    All-nil (λ (call : TraceCall). HasContents count (contents_of count (done ++ [])) call.tag call.verb)
all_contents actors count done (call ∷ rest) numbered have =
    All-cons (λ (other : TraceCall). HasContents count (contents_of count (done ++ call ∷ rest)) other.tag other.verb) call rest
    (own_contents actors count done rest call.tag call.verb numbered
    (All-head (λ (other : TraceCall). HasData count other.verb) call rest have))
    (subst (λ calls. All (λ other. HasContents count (contents_of count calls) other.tag other.verb) rest)
    (append_assoc done (call ∷ []) rest)
    (all_contents actors count (done ++ call ∷ []) rest
    (subst (λ calls. AreNumberedAfter actors [] calls) (sym (append_assoc done (call ∷ []) rest)) numbered)
    (All-tail (λ (other : TraceCall). HasData count other.verb) call rest have)))

-- what holds of each start, and of each channel with that, holds of each channel
all_channels : (P : Start → Type 0) (Q R : ChannelRun → Type 0) → ((run : ChannelRun) → P run.start → Q run → R run) →
    (starts : List Start) (pasts : List (List Entry)) → All P starts → All Q (runs_with starts pasts) →
    All R (runs_with starts pasts)
all_channels P Q R follows [] pasts of_starts of_runs = All-nil R
all_channels P Q R follows (start ∷ starts) [] of_starts of_runs = All-nil R
all_channels P Q R follows (start ∷ starts) (past ∷ pasts) of_starts of_runs =
    let run : ChannelRun = record { start = start; past = past } in
    All-cons R run (runs_with starts pasts)
    (follows run (All-head P start starts of_starts) (All-head Q run (runs_with starts pasts) of_runs))
    (all_channels P Q R follows starts pasts (All-tail P start starts of_starts) (All-tail Q run (runs_with starts pasts) of_runs))

-- each call that was served has its reply
pub all_answered : (contents : List (Tag × List ℕ)) (replies : List (List Reply)) (channels : ℕ) {calls : List TraceCall}
    {before after : SerialState} → AreServed contents replies channels calls before after →
    All (λ call. is_some (reply_to replies call.tag) ≡ true) calls
all_answered contents replies channels none_left = All-nil (λ (call : TraceCall). is_some (reply_to replies call.tag) ≡ true)
all_answered contents replies channels (serves {call = call} {calls = calls} is made rest) =
    All-cons (λ (other : TraceCall). is_some (reply_to replies other.tag) ≡ true) call calls (ap is_some is)
    (all_answered contents replies channels rest)

-- calls that are numbered have numbers that fit their fields, where there are few
small_calls : (actors : ℕ) (before calls : List TraceCall) → AreNumberedAfter actors before calls → actors ≤ 2 ^ 8 →
    length before + length calls ≤ 2 ^ 32 → All (λ call. IsSmallVerb call.verb) calls → All IsSmallCall calls
small_calls actors before [] numbered few many small = All-nil IsSmallCall
small_calls actors before (call ∷ calls) numbered few many small =
    let own = numbered.0 in
    let actor = own.is_actor in
    let number = own.is_number in
    let counted = count_by-le-length (λ (older : TraceCall). older.tag.actor == call.tag.actor) before in
    let more = length-append before (call ∷ []) in
    All-cons IsSmallCall call calls
    (record {
      small_tag = record { actor = omega (arith, actor, few); call = omega (arith, number, counted, many) };
      small_verb = All-head (λ (other : TraceCall). IsSmallVerb other.verb) call calls small;
    })
    (small_calls actors (before ++ call ∷ []) calls numbered.1 few (omega (arith, more, many))
    (All-tail (λ (other : TraceCall). IsSmallVerb other.verb) call calls small))

-- the histories of the channels of a run are those of its pasts
histories_are : (starts : List Start) (pasts : List (List Entry)) → length pasts ≡ length starts →
    map (λ (channel : ChannelRun). history_of channel.past) (runs_with starts pasts) ≡ map history_of pasts
histories_are [] [] many = refl
histories_are [] (past ∷ pasts) many = absurd (omega (arith, many))
histories_are (start ∷ starts) [] many = refl
histories_are (start ∷ starts) (past ∷ pasts) many =
    let fewer : length pasts ≡ length starts = omega (arith, many) in
    ap {B = List (List Entry)} (λ (more : List (List Entry)). history_of past ∷ more) (histories_are starts pasts fewer)

module _ (head : Head) (run : Run) (has_calls : HasCalls head run) (hold : ChannelsHold head run) where
  abbrev contents : List (Tag × List ℕ)
  contents = data_in head run

  are_traced : All (IsTracedRun contents run.calls.calls) (channels_of run)
  are_traced =
      all_channels (λ (start : Start). start.base.shape.bytes ≡ head.sizes.bytes)
      (λ (channel : ChannelRun). IsPastOf channel.start contents channel.past) (IsTracedRun contents run.calls.calls)
      (λ channel bytes is_past. record {
        has_named_pages = starts_have_named_pages channel.start is_past.is_start;
        is_lawful = is_past.is_lawful;
        has_contents =
            subst (λ count. All (λ call. HasContents count contents call.tag call.verb) run.calls.calls) (sym bytes)
            (all_contents run.calls.actors head.sizes.bytes [] run.calls.calls has_calls.numbered has_calls.have_data);
      }) run.starts run.pasts has_calls.same_bytes hold.are_pasts

  have_short_pasts : All (HasShortPast contents) (channels_of run)
  have_short_pasts =
      all_channels (λ (start : Start). HasSmallSerials start.base)
      (λ (channel : ChannelRun). IsPastOf channel.start contents channel.past × (length channel.past ≤ channel.start.limit))
      (HasShortPast contents)
      (λ channel serials held. record { is_past = held.0; is_short = held.1; serials = serials }) run.starts run.pasts hold.serials
      (all_both (λ (channel : ChannelRun). IsPastOf channel.start contents channel.past)
      (λ (channel : ChannelRun). length channel.past ≤ channel.start.limit)
      (λ channel. IsPastOf channel.start contents channel.past × (length channel.past ≤ channel.start.limit))
      (λ channel is_past short. (is_past, short)) (channels_of run) hold.are_pasts hold.are_short)

  are_spelled : AreCallsInOrder contents run.calls.calls run.replies (channels_of run) →
      are_spelled_histories (map history_of run.pasts) ≡ true
  are_spelled in_order =
      let calls = has_calls.few_calls in
      let few : length (channels_of run) ≤ 256 =
      subst (λ (n : ℕ). n ≤ 256) (sym (runs_as_many run.starts run.pasts hold.as_many_pasts)) hold.few_channels in
      subst (λ (histories : List (List Entry)). are_spelled_histories histories ≡ true)
      (histories_are run.starts run.pasts hold.as_many_pasts)
      (calls_in_order_are_spelled contents run.calls.calls run.replies (channels_of run) in_order have_short_pasts
      (small_calls run.calls.actors [] run.calls.calls has_calls.numbered has_calls.few_actors (omega (arith, calls))
      has_calls.small_verbs) few)

  -- calls in order with their replies
  pub headline : AreCallsInOrder contents run.calls.calls run.replies (channels_of run) →
      AreReplies contents run.calls.calls run.replies (channels_of run) → Headline head run
  headline in_order are_replies = record {
    as_many_pasts = hold.as_many_pasts;
    as_many_actors = has_calls.as_many_actors;
    are_pasts = hold.are_pasts;
    have_room = hold.have_room;
    are_counted = hold.are_counted;
    are_spelled = are_spelled in_order;
    in_order = in_order;
    are_replies = are_replies;
    last_writes = calls_give_last_writes contents run.calls.calls run.replies (channels_of run) are_traced in_order are_replies;
  }

pub serial_runs_hold : SerialRunsHold
serial_runs_hold head run hints has_calls hold serial = record {
  headline =
      headline head run has_calls hold
      (serial_calls_are_in_order (data_in head run) run.starts run.calls.actors run.calls.calls run.replies (state_of run hints)
      has_calls.numbered serial.are_served)
      serial.are_replies;
  is_whole = record {
    hints = hints;
    are_served = serial.are_served;
    all_answered =
        list_all-from_AllPass (λ call. is_some (reply_to run.replies call.tag)) run.calls.calls
        (all_answered (data_in head run) run.replies (length run.starts) serial.are_served);
  };
}

pub serial_stops_hold : SerialStopsHold
serial_stops_hold head run channel entries stopped has_calls hold left =
    headline head run has_calls hold
    (serial_stops_are_in_order (data_in head run) run.starts run.calls.actors run.calls.calls run.replies channel entries
    (state_of run stopped.hints) stopped.is_stop has_calls.numbered left)
    stopped.is_stop.are_replies
