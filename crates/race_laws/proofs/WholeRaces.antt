-- A whole race: an answered drain took few, since its reply says so.
use Rattle.std.proofs.Common.{ℕ, ◌≡◌, ◌<◌, ◌≤◌, Bool, true, false, List, [], length, Some, refl}
use Rattle.std.specs.Prelude.{All, nat_lt, slice_get}
use Rattle.std.specs.Option.{ForSome}
use Rattle.std.proofs.lemmas.Bool.{ltb-false, ltb-true}
use Rattle.std.proofs.lemmas.List.Elements.{All-weaker}
use Rattle.ssd_geo.specs.declared.reply.Reply.{Reply}
use Rattle.ssd_geo.specs.declared.tag.Tag.{Tag}
use Rattle.ssd_geo.specs.declared.trace.TraceCall.{TraceCall}
use Rattle.ssd_geo.specs.declared.trace.Verb.{Verb}
use Rattle.ssd_histories.specs.CallsInOrder.{AreStepsOf, ChannelRun, answered_by, ladder_in, reply_to, steps_on}
use Rattle.serial_laws.proofs.Lists.{IsItemAt, all_both, all_numbered, item_at}
use Rattle.calls_among_others.specs.ActorsCalls.{IsAsked}
use Rattle.calls_among_others.specs.CallsAmong.{DecideReply}
use Rattle.race_laws.specs.Drains.{AreDrainedOn}
use Rattle.race_laws.specs.RaceReplies.{HasChannel, HasFaultLast, IsDrainAnswered, WholeRacesAreInOrder}
use Rattle.race_laws.specs.Races.{IsActorAsked, IsFewWhereDrain}
use Rattle.race_laws.proofs.DrainCounts.{drains_take_few}
use Rattle.race_laws.proofs.PlacedCalls.{IsPlacedIn, are_placed}
use Rattle.race_laws.proofs.RaceReplies.{races_replied, reply_there}
use Rattle.race_laws.proofs.RacesInOrder.{IsAnsweredAt, asked_at, found_answered, races_in_order}

module _ (contents : List (Tag × List ℕ)) (runs : List ChannelRun) (tag : Tag) where
  -- what each channel says of a call of a verb that has this reply
  abbrev IsMadeAs : Verb → Reply → ℕ → ChannelRun → Type 0
  IsMadeAs verb reply i run =
      AreStepsOf (ladder_in contents run) run.start.base (length runs) i verb (steps_on tag run)
      × DecideReply (ladder_in contents run) run.start.base (length runs) i verb (steps_on tag run) reply

  abbrev AreMadeAs : Verb → Reply → Type 0
  AreMadeAs verb reply = (i : ℕ) (run : ChannelRun) → slice_get runs i ≡ Some run → IsMadeAs verb reply i run

  few_of_drain : (count : ℕ) (reply : Reply) → 0 < length runs → IsDrainAnswered (Verb.Drain count) reply →
      AreMadeAs (Verb.Drain count) reply → IsFewWhereDrain runs tag (Verb.Drain count)
  few_of_drain count (Reply.Drained pages) some few made =
      drains_take_few contents runs tag count pages
      (all_numbered (AreDrainedOn contents (length runs) tag pages) runs
      (λ i run is. record { are_refreshes = (made i run is).0; are_drained = (made i run is).1 })) few.0 few.1
  few_of_drain count other some few made = absurd never
    where
      never : ⊥
      never = let first : IsItemAt runs 0 = item_at runs 0 some in (made 0 first.item first.is_there).1

  few_where : (verb : Verb) (reply : Reply) → HasChannel (length runs) verb → IsDrainAnswered verb reply →
      AreMadeAs verb reply → IsFewWhereDrain runs tag verb
  few_where (Verb.Write page content) reply some few made = tt
  few_where (Verb.Read page) reply some few made = tt
  few_where (Verb.Trim page) reply some few made = tt
  few_where (Verb.Refresh page) reply some few made = tt
  few_where (Verb.Collect channel) reply some few made = tt
  few_where (Verb.Drain count) reply some few made = few_of_drain count reply some few made
  few_where (Verb.Age channel die sb amount) reply some few made = tt

  -- only its last page tells of a failed call
  fault_last : (verb : Verb) (reply : Reply) → IsDrainAnswered verb reply → HasFaultLast verb reply
  fault_last (Verb.Drain count) (Reply.Drained pages) few = few.0
  fault_last verb reply few = tt

module _ (contents : List (Tag × List ℕ)) (actors : ℕ) (calls : List TraceCall) (replies : List (List Reply))
    (runs : List ChannelRun) (asked : (actor : ℕ) → IsActorAsked contents calls replies runs actor) where
  -- what is asked of each call
  record IsReadyCall (call : TraceCall) : Type 0 where
    has : HasChannel (length runs) call.verb
    drained : ForSome (reply_to replies call.tag) (IsDrainAnswered call.verb)
    begun : answered_by replies call.tag.actor ≤ call.tag.call → IsFewWhereDrain runs call.tag call.verb

  is_few : (call : TraceCall) → IsPlacedIn calls call → IsReadyCall call → IsFewWhereDrain runs call.tag call.verb
  is_few call placed ready = by_test (nat_lt call.tag.call (answered_by replies call.tag.actor)) refl
    where
      by_test : (b : Bool) → nat_lt call.tag.call (answered_by replies call.tag.actor) ≡ b →
          IsFewWhereDrain runs call.tag call.verb
      by_test true is =
          let low : call.tag.call < answered_by replies call.tag.actor =
          ltb-true call.tag.call (answered_by replies call.tag.actor) is in
          let found : IsAnsweredAt (asked call.tag.actor).are_calls.answered call.tag.call call =
          found_answered contents actors calls replies runs asked call placed low in
          few_where contents runs call.tag call.verb found.reply ready.has
          (ready.drained found.reply (reply_there contents actors calls replies runs asked call placed found))
          (λ i run there.
          let its : IsAsked contents (length runs) i run (call, found.reply) =
          asked_at contents actors calls replies runs asked call placed found i run there in
          (its.are_whole, its.decide))
      by_test false is = ready.begun (ltb-false call.tag.call (answered_by replies call.tag.actor) is)

pub whole_races_in_order : WholeRacesAreInOrder
whole_races_in_order contents actors calls replies runs numbered asked have drains begun =
    let placed : All (IsPlacedIn calls) calls = are_placed actors [] calls numbered in
    let ready : All (IsReadyCall contents actors calls replies runs asked) calls =
    all_both
    (λ call. HasChannel (length runs) call.verb × ForSome (reply_to replies call.tag) (IsDrainAnswered call.verb))
    (λ call. answered_by replies call.tag.actor ≤ call.tag.call → IsFewWhereDrain runs call.tag call.verb)
    (IsReadyCall contents actors calls replies runs asked)
    (λ call both later. record { has = both.0; drained = both.1; begun = later })
    calls
    (all_both (λ call. HasChannel (length runs) call.verb)
    (λ call. ForSome (reply_to replies call.tag) (IsDrainAnswered call.verb))
    (λ call. HasChannel (length runs) call.verb × ForSome (reply_to replies call.tag) (IsDrainAnswered call.verb))
    (λ call first second. (first, second)) calls have drains)
    begun in (
      races_in_order contents actors calls replies runs numbered asked
          (all_both (IsPlacedIn calls) (IsReadyCall contents actors calls replies runs asked)
          (λ call. call.tag.call ≤ answered_by replies call.tag.actor → IsFewWhereDrain runs call.tag call.verb)
          (λ call at_place is_ready low. is_few contents actors calls replies runs asked call at_place is_ready)
          calls placed ready),
      races_replied contents actors calls replies runs numbered asked have
          (All-weaker (λ call. ForSome (reply_to replies call.tag) (IsDrainAnswered call.verb))
          (λ call. ForSome (reply_to replies call.tag) (HasFaultLast call.verb))
          (λ call few reply is. fault_last contents runs call.tag call.verb reply (few reply is)) calls drains),
    )
