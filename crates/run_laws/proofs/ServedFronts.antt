-- Calls served one after the other, from none of them on: with the next one, and where a run stops in that one.
use Rattle.std.proofs.Common.{ℕ, ◌≡◌, ◌<◌, ◌≤◌, ◌==◌, Bool, true, false, cond, List, [], ◌∷◌, ◌++◌, Option, Some, None, length, map, replicate, refl, sym, ap, subst, ◌∙◌, append_assoc, arith, length-set}
use Rattle.std.specs.Prelude.{All, IsTrue, count_by, is_some, slice_index_or}
use Rattle.std.specs.List.{enumerate_from, list_all}
use Rattle.std.specs.Option.{ForSome}
use Rattle.std.proofs.lemmas.List.{length-replicate}
use Rattle.std.proofs.lemmas.List.Elements.{All-append, All-cons, All-get_or, All-nil, All-replicate, All-tail, All-weaker}
use Rattle.std.proofs.lemmas.List.Sums.{sum_by_push}
use Rattle.std.proofs.lemmas.Option.{get_or_from_slice_get, none-some, slice_get_past, slice_get_within, same_Some}
use Rattle.serial_laws.proofs.GrownPasts.{steps_stay}
use Rattle.serial_laws.proofs.Lists.{Pairwise, all_both, all_numbered, pairs_all, pairs_same}
use Rattle.serial_laws.proofs.MadeCalls.{HasNoSteps, IsGrownRun, run_itself}
use Rattle.serial_laws.proofs.MovedReplies.{reply_stays}
use Rattle.serial_laws.proofs.NumberedTags.{IsBelow, IsLate, are_late, counts_grow, counts_in, later_tag, numbered_back, numbered_front, numbers_are_below, other_way}
use Rattle.serial_laws.proofs.OneReply.{serial_replies_stay}
use Rattle.serial_laws.proofs.ServedChains.{HoldsSoFar, all_served, none_so_far, nothing_served}
use Rattle.serial_laws.proofs.UnbegunCalls.{looks_are_left}
use Rattle.ssd_geo.specs.declared.reply.Reply.{Reply}
use Rattle.ssd_geo.specs.declared.tag.Tag.{Tag}
use Rattle.ssd_geo.specs.declared.trace.TraceCall.{TraceCall}
use Rattle.ssd_formats.specs.TraceText.{is_of_actor}
use Rattle.ssd_histories.specs.CallsInOrder.{AreNumberedAfter, AreReplies, ChannelRun, IsNotMade, IsNumberedAfter, IsReplyOf, is_left, reply_to, steps_on}
use Rattle.ssd_histories.specs.History.{is_same_tag}
use Rattle.ssd_histories.specs.Lawful.{IsLawful}
use Rattle.ssd_histories.specs.SerialHistory.{AreServed, SerialCall, SerialState, first_state, none_left, serves}
use Rattle.ssd_histories.specs.SerialStop.{IsSerialStop, SerialCut}
use Rattle.ssd_histories.specs.Start.{Start}
use Rattle.run_laws.specs.Headline.{IsStoppedRun}
use Rattle.run_laws.specs.Runs.{channels_of, data_in}
use Rattle.run_laws.specs.SerialRuns.{HasServed, ServedFrontsStop, ServesNext, ServesOneMore, ServingBegins, state_of, with_reply}
use Rattle.run_laws.proofs.AddedReplies.{new_reply_there, reply_there, still_counted}
use Rattle.run_laws.proofs.SerialHeadline.{all_answered, serial_stops_hold}
use Rattle.shared_lemmas.proofs.Tests.{same_number}

-- calls stay served where the replies grow
served_with : (contents : List (Tag × List ℕ)) (replies more : List (List Reply)) (channels : ℕ) →
    ((tag : Tag) (held : Reply) → reply_to replies tag ≡ Some held → reply_to more tag ≡ Some held) →
    (calls : List TraceCall) (before after : SerialState) → AreServed contents replies channels calls before after →
    AreServed contents more channels calls before after
served_with contents replies more channels keeps calls before after none_left = none_left
served_with contents replies more channels keeps calls before after
    (serves {call = first} {calls = rest} {reply = reply} {between = between} is made left) =
    serves {reply = reply} {between = between} (keeps first.tag reply is) made
    (served_with contents replies more channels keeps rest between after left)

-- and with one more after them
served_then : (contents : List (Tag × List ℕ)) (replies : List (List Reply)) (channels : ℕ) (call : TraceCall) (reply : Reply)
    (last : SerialState) → reply_to replies call.tag ≡ Some reply → (calls : List TraceCall) (before after : SerialState) →
    AreServed contents replies channels calls before after → SerialCall contents channels call.tag reply call.verb after last →
    AreServed contents replies channels (calls ++ call ∷ []) before last
served_then contents replies channels call reply last there calls before after none_left made =
    serves {reply = reply} {between = last} there made none_left
served_then contents replies channels call reply last there calls before after
    (serves {calls = rest} {reply = held} {between = between} is first left) made =
    serves {reply = held} {between = between} is first
    (served_then contents replies channels call reply last there rest between after left made)

-- no actor has more replies than calls, in one list
enough_calls : (replies : List (List Reply)) (actors : ℕ) (calls : List TraceCall) → length replies ≡ actors →
    ((actor : ℕ) → actor < actors → length (slice_index_or replies actor []) ≤ counts_in calls actor) →
    All (λ item. length item.1 ≤ count_by (λ call. call.tag.actor == item.0) calls) (enumerate_from 0 replies)
enough_calls replies actors calls many few =
    all_numbered (λ item. length item.1 ≤ count_by (λ call. call.tag.actor == item.0) calls) replies
    (λ actor list is.
    let within = slice_get_within replies actor list is in
    let enough = few actor (omega (arith, within, many)) in
    let same : length (slice_index_or replies actor []) ≡ length list = ap length (get_or_from_slice_get replies actor list [] is) in
    omega (arith, enough, same))

-- before the first call
no_reply : (actors actor : ℕ) → actor < actors → length (slice_index_or (replicate {A = List Reply} actors []) actor []) ≡ 0
no_reply actors actor low =
    All-get_or (λ (list : List Reply). length list ≡ 0) (replicate actors []) actor []
    (subst (λ n. actor < n) (sym (length-replicate {A = List Reply} actors [])) low)
    (All-replicate (λ (list : List Reply). length list ≡ 0) actors [] refl)

begin_lawful : (contents : List (Tag × List ℕ)) (starts : List Start) →
    All (λ (run : ChannelRun). IsLawful run.start contents run.past) (map (λ start. record { start = start; past = [] }) starts)
begin_lawful contents [] = All-nil (λ (run : ChannelRun). IsLawful run.start contents run.past)
begin_lawful contents (start ∷ starts) =
    All-cons (λ (run : ChannelRun). IsLawful run.start contents run.past) (record { start = start; past = [] })
    (map (λ start. record { start = start; past = [] }) starts) tt (begin_lawful contents starts)

pub serving_begins : ServingBegins
serving_begins contents starts actors = record {
  is_serial = record {
    are_served = none_left;
    are_lawful = begin_lawful contents starts;
    are_replies = record {
      enough_calls =
          enough_calls (replicate actors []) actors [] (length-replicate {A = List Reply} actors [])
          (λ actor low. let none = no_reply actors actor low in omega (arith, none));
      are_replies =
          All-nil (λ (call : TraceCall). ForSome (reply_to (replicate actors []) call.tag)
          (IsReplyOf contents (map (λ start. record { start = start; past = [] }) starts) call));
    };
  };
  as_many_actors = length-replicate {A = List Reply} actors [];
  as_many_replies = λ actor low. no_reply actors actor low;
}

-- the reply of an earlier call, among those with one more and the channels after
kept_reply : (contents : List (Tag × List ℕ)) (before after : List ChannelRun) (replies more : List (List Reply)) →
    ((tag : Tag) (held : Reply) → reply_to replies tag ≡ Some held → reply_to more tag ≡ Some held) →
    (call : TraceCall) → is_some (reply_to replies call.tag) ≡ true →
    ForSome (reply_to replies call.tag) (IsReplyOf contents before call) →
    ((held : Reply) → IsReplyOf contents before call held → IsReplyOf contents after call held) →
    ForSome (reply_to more call.tag) (IsReplyOf contents after call)
kept_reply contents before after replies more keeps call there held stays = by_reply (reply_to replies call.tag) refl there
  where
    by_reply : (option : Option Reply) → reply_to replies call.tag ≡ option → is_some option ≡ true →
        ForSome (reply_to more call.tag) (IsReplyOf contents after call)
    by_reply None e some = absurd (grind arith)
    by_reply (Some reply) e some = λ given is.
        subst (λ (named : Reply). IsReplyOf contents after call named)
        (same_Some reply given (sym (keeps call.tag reply e) ∙ is)) (stays reply (held reply e))

-- the calls so far, of which each is numbered
module _ (contents : List (Tag × List ℕ)) (starts : List Start) (actors : ℕ) (done rest : List TraceCall) (call : TraceCall)
    (replies : List (List Reply)) (before : SerialState) (numbered : AreNumberedAfter actors [] (done ++ call ∷ rest))
    (served : HasServed contents starts actors done replies before) where
  numbered_done : AreNumberedAfter actors [] done
  numbered_done = numbered_front actors [] done (call ∷ rest) numbered

  so_far : HoldsSoFar contents (length starts) done before.channels
  so_far =
      all_served contents replies (length starts) actors [] served.is_serial.are_served numbered_done
      (nothing_served contents starts)

  below : All (λ other. IsBelow (counts_in done) other.tag) done
  below = numbers_are_below actors [] done numbered_done

  pub number : IsNumberedAfter actors done call
  number = (numbered_back actors [] done (call ∷ rest) numbered).0

  late : counts_in done call.tag.actor ≤ call.tag.call
  late = let is = number.is_number in omega (arith, is)

  -- the next call has no step yet, and no look of it is open
  pub none_before : HasNoSteps call.tag before.channels
  none_before = none_so_far done before.channels call.tag below so_far.known late

  pub none_open : IsTrue (list_all (is_left call.tag) before.channels)
  none_open = looks_are_left (counts_in done) done before.channels call.tag late below so_far.known

  low : call.tag.actor < length replies
  low = let is_actor = number.is_actor in let many = served.as_many_actors in omega (arith, is_actor, many)

  -- with the next call
  module _ (reply : Reply) (after : SerialState) (next : ServesNext contents (length starts) call reply before after) where
    abbrev more : List (List Reply)
    more = with_reply replies call.tag.actor reply

    keeps : (tag : Tag) (held : Reply) → reply_to replies tag ≡ Some held → reply_to more tag ≡ Some held
    keeps tag held is = reply_there replies call.tag.actor reply tag held low is

    there : reply_to more call.tag ≡ Some reply
    there =
        new_reply_there replies call.tag reply low
        (served.as_many_replies call.tag.actor number.is_actor ∙ sym number.is_number)

    numbered_next : AreNumberedAfter actors [] (done ++ call ∷ [])
    numbered_next =
        numbered_front actors [] (done ++ call ∷ []) rest
        (subst (λ calls. AreNumberedAfter actors [] calls) (sym (append_assoc done (call ∷ []) rest)) numbered)

    abbrev Replied : TraceCall → Type 0
    Replied other = ForSome (reply_to more other.tag) (IsReplyOf contents after.channels other)

    -- the replies of the calls so far are found, and stay those of their calls' entries
    abbrev Stays : TraceCall → Type 0
    Stays other =
        (is_some (reply_to replies other.tag) ≡ true)
        × ((held : Reply) → IsReplyOf contents before.channels other held → IsReplyOf contents after.channels other held)

    stay : All Stays done
    stay =
        all_both (λ (other : TraceCall). is_some (reply_to replies other.tag) ≡ true)
        (λ (other : TraceCall).
        (held : Reply) → IsReplyOf contents before.channels other held → IsReplyOf contents after.channels other held)
        Stays (λ other found stays. (found, stays)) done
        (all_answered contents replies (length starts) served.is_serial.are_served)
        (serial_replies_stay contents starts actors done call reply replies before after numbered_next
        served.is_serial.are_served next.is_serial)

    older_replies : All Replied done
    older_replies =
        all_both Stays (λ (other : TraceCall). ForSome (reply_to replies other.tag) (IsReplyOf contents before.channels other))
        Replied
        (λ other stays held. kept_reply contents before.channels after.channels replies more keeps other stays.0 held stays.1)
        done stay served.is_serial.are_replies.are_replies

    new_reply : Replied call
    new_reply = λ given is.
        subst (λ (named : Reply). IsReplyOf contents after.channels call named)
        (same_Some reply given (sym there ∙ is)) next.is_reply

    as_many_replies : (actor : ℕ) → actor < actors →
        length (slice_index_or more actor []) ≡ count_by (is_of_actor actor) (done ++ call ∷ [])
    as_many_replies actor within = still_counted replies done call reply actor low (served.as_many_replies actor within)

    as_many_actors : length more ≡ actors
    as_many_actors = length-set replies call.tag.actor _ ∙ served.as_many_actors

    pub with_next : HasServed contents starts actors (done ++ call ∷ []) more after
    with_next = record {
      is_serial = record {
        are_served =
            served_then contents more (length starts) call reply after there done (first_state starts) before
            (served_with contents replies more (length starts) keeps done (first_state starts) before served.is_serial.are_served)
            next.is_serial;
        are_lawful = next.are_lawful;
        are_replies = record {
          enough_calls =
              enough_calls more actors (done ++ call ∷ []) as_many_actors
              (λ actor within. let many = as_many_replies actor within in omega (arith, many));
          are_replies =
              All-append Replied done (call ∷ []) older_replies (All-cons Replied call [] new_reply (All-nil Replied));
        };
      };
      as_many_actors = as_many_actors;
      as_many_replies = as_many_replies;
    }

  -- the calls from the next one on have no reply
  none_replied : All (λ other. reply_to replies other.tag ≡ None) (call ∷ rest)
  none_replied =
      all_both (IsLate (counts_in done)) (λ (other : TraceCall). other.tag.actor < actors)
      (λ other. reply_to replies other.tag ≡ None)
      (λ other is_late actor_low.
      let counted = served.as_many_replies other.tag.actor actor_low in
      slice_get_past (slice_index_or replies other.tag.actor []) other.tag.call (omega (arith, counted, is_late)))
      (call ∷ rest) (are_late actors done (call ∷ rest) (numbered_back actors [] done (call ∷ rest) numbered))
      (actors_low actors done (call ∷ rest) (numbered_back actors [] done (call ∷ rest) numbered))
    where
      actors_low : (actors : ℕ) (older calls : List TraceCall) → AreNumberedAfter actors older calls →
          All (λ other. other.tag.actor < actors) calls
      actors_low actors older [] numbered = All-nil (λ (other : TraceCall). other.tag.actor < actors)
      actors_low actors older (first ∷ calls) numbered =
          All-cons (λ (other : TraceCall). other.tag.actor < actors) first calls numbered.0.is_actor
          (actors_low actors (older ++ first ∷ []) calls numbered.1)

  -- those behind it have no entry
  none_begun : All (IsNotMade before.channels) rest
  none_begun =
      All-weaker (IsLate (counts_in done)) (IsNotMade before.channels)
      (λ other is_late. none_so_far done before.channels other.tag below so_far.known is_late) rest
      (All-tail (IsLate (counts_in done)) call rest
      (are_late actors done (call ∷ rest) (numbered_back actors [] done (call ∷ rest) numbered)))

  -- the calls behind it have other tags
  others_differ : All (λ other. is_same_tag other.tag call.tag ≡ false) rest
  others_differ =
      All-weaker (IsLate (counts_in (done ++ call ∷ []))) (λ (other : TraceCall). is_same_tag other.tag call.tag ≡ false)
      (λ other is_late. later_tag (counts_in (done ++ call ∷ [])) other.tag call.tag is_late own_below) rest
      (are_late actors (done ++ call ∷ []) rest (numbered_back actors [] done (call ∷ rest) numbered).1)
    where
      own_below : IsBelow (counts_in (done ++ call ∷ [])) call.tag
      own_below =
          let is = number.is_number in
          let push = sum_by_push (λ (other : TraceCall). cond (other.tag.actor == call.tag.actor) 1 0) done call in
          let own : ◌≡◌ {A = ℕ} (cond (call.tag.actor == call.tag.actor) 1 0) 1 =
          ap {B = ℕ} (λ (b : Bool). cond b 1 0) (same_number call.tag.actor) in
          omega (arith, is, push, own)

  -- a call that stopped, with the entries that it had made until then
  module _ (channel entries : ℕ) (calls : List TraceCall) (are : calls ≡ done ++ call ∷ rest) (after : SerialState)
      (grown : Pairwise (IsGrownRun call.tag) before.channels after.channels)
      (lawful : All (λ run. IsLawful run.start contents run.past) after.channels)
      (cut : SerialCut contents (length starts) channel entries call.tag call.verb before after) where
    still_none_begun : All (IsNotMade after.channels) rest
    still_none_begun =
        all_both (IsNotMade before.channels) (λ (other : TraceCall). is_same_tag other.tag call.tag ≡ false)
        (IsNotMade after.channels)
        (λ other none differs.
        pairs_all (IsGrownRun call.tag) (λ (run : ChannelRun). steps_on other.tag run ≡ [])
        (λ (run : ChannelRun). steps_on other.tag run ≡ [])
        (λ run next more held. steps_stay other.tag call.tag run.past next.past differs more.grown ∙ held)
        before.channels after.channels grown none)
        rest none_begun others_differ

    abbrev Told : TraceCall → Type 0
    Told other = ForSome (reply_to replies other.tag) (IsReplyOf contents after.channels other)

    abbrev HasStayed : TraceCall → Type 0
    HasStayed other = (is_some (reply_to replies other.tag) ≡ true) × (is_same_tag other.tag call.tag ≡ false)

    earlier : All HasStayed done
    earlier =
        all_both (λ (other : TraceCall). is_some (reply_to replies other.tag) ≡ true) (λ other. IsBelow (counts_in done) other.tag)
        HasStayed
        (λ other answered low.
        (answered, other_way call.tag other.tag (later_tag (counts_in done) call.tag other.tag late low)))
        done (all_answered contents replies (length starts) served.is_serial.are_served) below

    earlier_told : All Told done
    earlier_told =
        all_both HasStayed (λ (other : TraceCall). ForSome (reply_to replies other.tag) (IsReplyOf contents before.channels other))
        Told
        (λ other stays held.
        kept_reply contents before.channels after.channels replies replies (λ tag given is. is) other stays.0 held
        (λ given is. reply_stays contents call.tag before.channels after.channels other given grown stays.1 is))
        done earlier served.is_serial.are_replies.are_replies

    all_replies : AreReplies contents (done ++ call ∷ rest) replies after.channels
    all_replies = record {
      enough_calls =
          enough_calls replies actors (done ++ call ∷ rest) served.as_many_actors
          (λ actor within.
          let counted = served.as_many_replies actor within in
          let grow = counts_grow done (call ∷ rest) actor in
          omega (arith, counted, grow));
      are_replies =
          All-append Told done (call ∷ rest) earlier_told
          (All-weaker (λ (other : TraceCall). reply_to replies other.tag ≡ None) Told
          (λ other none reply is. absurd (none-some reply (sym none ∙ is))) (call ∷ rest) none_replied);
    }

    pub stop_is : IsSerialStop contents starts calls replies channel entries after
    stop_is = record {
      served = done;
      call = call;
      rest = rest;
      before = before;
      are_calls = are;
      are_served = served.is_serial.are_served;
      is_cut = cut;
      no_replies = none_replied;
      not_begun = still_none_begun;
      are_lawful = lawful;
      are_replies = subst (λ list. AreReplies contents list replies after.channels) (sym are) all_replies;
    }

    pub stopped_call_is : stop_is.call ≡ call
    unfolding stop_is
    stopped_call_is = refl

pub serves_one_more : ServesOneMore
serves_one_more contents starts actors done rest call reply replies before after numbered served next =
    with_next contents starts actors done rest call replies before numbered served reply after next

pub served_fronts_stop : ServedFrontsStop
unfolding stop_is
served_fronts_stop head run hints left channel entries done rest call has_calls hold are served cut =
    let numbered : AreNumberedAfter run.calls.actors [] (done ++ call ∷ rest) =
    subst (λ calls. AreNumberedAfter run.calls.actors [] calls) are has_calls.numbered in
    let stopped : IsStoppedRun head run channel entries = record {
      hints = left;
      is_stop =
          stop_is (data_in head run) run.starts run.calls.actors done rest call run.replies (state_of run hints) numbered served
          channel entries run.calls.calls are (state_of run left)
          (pairs_same (IsGrownRun call.tag) (run_itself call.tag) (channels_of run)) served.is_serial.are_lawful cut;
    } in
    record {
      headline =
          serial_stops_hold head run channel entries stopped has_calls hold
          (none_open (data_in head run) run.starts run.calls.actors done rest call run.replies (state_of run hints) numbered served);
      is_stopped = stopped;
    }
