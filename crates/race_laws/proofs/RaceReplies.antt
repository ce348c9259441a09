-- The replies of a race: the one that stands at a call's number is the one that the call's steps on its channel decide.
use Rattle.std.proofs.Common.{ℕ, ◌≡◌, ◌<◌, ◌≤◌, ◌%◌, ◌==◌, Bool, true, false, List, [], ◌++◌, length, map, Option, Some, sym, ap, subst, ◌∙◌, arith}
use Rattle.std.specs.Prelude.{IsSomeAnd, count_by, option_map, slice_get, slice_index_or}
use Rattle.std.specs.Option.{ForSome}
use Rattle.std.proofs.lemmas.List.{length-append, length-map}
use Rattle.std.proofs.lemmas.Option.{get_or_from_slice_get, slice_get-map, slice_get_within, same_Some}
use Rattle.ssd_geo.specs.declared.reply.Reply.{Reply}
use Rattle.ssd_geo.specs.declared.tag.Tag.{Tag}
use Rattle.ssd_geo.specs.declared.trace.TraceCall.{TraceCall}
use Rattle.ssd_geo.specs.declared.trace.Verb.{Verb}
use Rattle.ssd_histories.specs.CallsInOrder.{ChannelRun, IsDrainReply, IsReplyBy, IsReplyOf, OfRun, answered_by, ladder_in, reply_to, steps_on}
use Rattle.ssd_histories.specs.Replies.{decided_pages, drained_on, pages_on}
use Rattle.serial_laws.proofs.Lists.{IsItemAt, all_both, all_numbered, item_at}
use Rattle.calls_among_others.specs.ActorsCalls.{IsAsked}
use Rattle.calls_among_others.specs.CallsAmong.{AreDrained, DecideReply, OnOwn}
use Rattle.race_laws.specs.RaceReplies.{HasChannel, HasFaultLast, RacesHaveReplies}
use Rattle.race_laws.specs.Races.{IsActorAsked, calls_of}
use Rattle.race_laws.proofs.PlacedCalls.{IsPlacedIn, are_placed, filter_length}
use Rattle.race_laws.proofs.RacesInOrder.{IsAnsweredAt, asked_at, found_answered, many_answered}
use Rattle.shared_lemmas.proofs.Tests.{same_number}

-- a fact of a call's own channel
on_own : (b : Bool) (fact : Type 0) → b ≡ true → OnOwn b fact → fact
on_own true fact own on = on
on_own false fact own on = absurd (grind arith)

of_run : (runs : List ChannelRun) (channel : ℕ) (fact : ChannelRun → Type 0) (run : ChannelRun) →
    slice_get runs channel ≡ Some run → fact run → OfRun runs channel fact
of_run runs channel fact run is holds = subst (λ (o : Option ChannelRun). IsSomeAnd o fact) (sym is) holds

module _ (contents : List (Tag × List ℕ)) (runs : List ChannelRun) (tag : Tag) (reply : Reply) where
  -- what each channel says of the reply
  abbrev Decides : Verb → Type 0
  Decides verb =
      (i : ℕ) (run : ChannelRun) → slice_get runs i ≡ Some run →
      DecideReply (ladder_in contents run) run.start.base (length runs) i verb (steps_on tag run) reply

  at_channel : (channel : ℕ) (fact : ChannelRun → Type 0) → channel < length runs →
      ((run : ChannelRun) → slice_get runs channel ≡ Some run → OnOwn (channel == channel) (fact run)) →
      OfRun runs channel fact
  at_channel channel fact low on =
      let found : IsItemAt runs channel = item_at runs channel low in
      of_run runs channel fact found.item found.is_there
      (on_own (channel == channel) (fact found.item) (same_number channel) (on found.item found.is_there))

  in_range : (page : ℕ) → 0 < length runs → page % length runs < length runs
  in_range page some = omega (arith, some)

  drained : (count : ℕ) (reply : Reply) → 0 < length runs → HasFaultLast (Verb.Drain count) reply →
      ((i : ℕ) (run : ChannelRun) → slice_get runs i ≡ Some run →
      AreDrained (ladder_in contents run) (length runs) i (steps_on tag run) reply) → IsDrainReply contents runs tag reply
  drained count (Reply.Drained pages) some last decides = (
    all_numbered
        (λ item.
        drained_on (ladder_in contents item.1) (length runs) item.0 (steps_on tag item.1) ≡
        decided_pages (pages_on (length runs) item.0 pages))
        runs decides,
    last,
  )
  drained count other some last decides =
      let first : IsItemAt runs 0 = item_at runs 0 some in absurd (decides 0 first.item first.is_there)

  is_reply_by : (verb : Verb) → HasChannel (length runs) verb → HasFaultLast verb reply → Decides verb →
      IsReplyBy contents runs tag reply verb
  is_reply_by (Verb.Write page content) some last decides =
      at_channel (page % length runs) _ (in_range page some) (decides (page % length runs))
  is_reply_by (Verb.Read page) some last decides =
      at_channel (page % length runs) _ (in_range page some) (decides (page % length runs))
  is_reply_by (Verb.Trim page) some last decides =
      at_channel (page % length runs) _ (in_range page some) (decides (page % length runs))
  is_reply_by (Verb.Refresh page) some last decides =
      at_channel (page % length runs) _ (in_range page some) (decides (page % length runs))
  is_reply_by (Verb.Collect channel) low last decides = at_channel channel _ low (decides channel)
  is_reply_by (Verb.Drain count) some last decides = drained count reply some last decides
  is_reply_by (Verb.Age channel die sb amount) low last decides = at_channel channel _ low (decides channel)

module _ (contents : List (Tag × List ℕ)) (actors : ℕ) (calls : List TraceCall) (replies : List (List Reply))
    (runs : List ChannelRun) (asked : (actor : ℕ) → IsActorAsked contents calls replies runs actor) where
  enough : (actor : ℕ) (own : List Reply) → slice_get replies actor ≡ Some own →
      length own ≤ count_by (λ call. call.tag.actor == actor) calls
  enough actor own is =
      let many = many_answered contents actors calls replies runs asked actor in
      let same : length (slice_index_or replies actor []) ≡ length own =
      ap (λ (list : List Reply). length list) (get_or_from_slice_get replies actor own [] is) in
      let firsts = length-map (asked actor).are_calls.answered (λ made. made.0) in
      let joined = length-append (map (λ made. made.0) (asked actor).are_calls.answered) (asked actor).are_calls.rest in
      let whole : length (map (λ made. made.0) (asked actor).are_calls.answered ++ (asked actor).are_calls.rest) ≡
      length (calls_of actor calls) =
      ap (λ (list : List TraceCall). length list) (asked actor).are_calls.are_calls in
      let counted = filter_length (λ (call : TraceCall). call.tag.actor == actor) calls in
      omega (arith, many, same, firsts, joined, whole, counted)

  -- the reply of a call of the trace
  module _ (call : TraceCall) (placed : IsPlacedIn calls call) where
    pub reply_there : (found : IsAnsweredAt (asked call.tag.actor).are_calls.answered call.tag.call call) →
        reply_to replies call.tag ≡ Some found.reply
    reply_there found =
        ap (λ (list : List Reply). slice_get list call.tag.call) (sym (asked call.tag.actor).are_calls.are_replies)
        ∙ slice_get-map (λ (made : TraceCall × Reply). made.1) (asked call.tag.actor).are_calls.answered call.tag.call
        ∙ ap (option_map (λ (made : TraceCall × Reply). made.1)) found.is_there

    pub decides_reply : (reply : Reply) → reply_to replies call.tag ≡ Some reply → (i : ℕ) (run : ChannelRun) →
        slice_get runs i ≡ Some run → IsAsked contents (length runs) i run (call, reply)
    decides_reply reply is i run there =
        let low : call.tag.call < answered_by replies call.tag.actor =
        slice_get_within (slice_index_or replies call.tag.actor []) call.tag.call reply is in
        let found : IsAnsweredAt (asked call.tag.actor).are_calls.answered call.tag.call call =
        found_answered contents actors calls replies runs asked call placed low in
        subst (λ (r : Reply). IsAsked contents (length runs) i run (call, r))
        (same_Some found.reply reply (sym (reply_there found) ∙ is))
        (asked_at contents actors calls replies runs asked call placed found i run there)

    is_replied : HasChannel (length runs) call.verb → ForSome (reply_to replies call.tag) (HasFaultLast call.verb) →
        ForSome (reply_to replies call.tag) (IsReplyOf contents runs call)
    is_replied has last reply is =
        is_reply_by contents runs call.tag reply call.verb has (last reply is)
        (λ i run there. (decides_reply reply is i run there).decide)

abbrev IsReady : List ChannelRun → List (List Reply) → TraceCall → Type 0
IsReady runs replies call =
    HasChannel (length runs) call.verb × ForSome (reply_to replies call.tag) (HasFaultLast call.verb)

pub races_replied : RacesHaveReplies
races_replied contents actors calls replies runs numbered asked have last = record {
  enough_calls =
      all_numbered (λ item. length item.1 ≤ count_by (λ call. call.tag.actor == item.0) calls) replies
      (enough contents actors calls replies runs asked);
  are_replies =
      all_both (IsPlacedIn calls) (IsReady runs replies)
      (λ call. ForSome (reply_to replies call.tag) (IsReplyOf contents runs call))
      (λ call placed ready. is_replied contents actors calls replies runs asked call placed ready.0 ready.1) calls
      (are_placed actors [] calls numbered)
      (all_both (λ call. HasChannel (length runs) call.verb)
      (λ call. ForSome (reply_to replies call.tag) (HasFaultLast call.verb))
      (IsReady runs replies) (λ call has faults. (has, faults)) calls have last);
}
