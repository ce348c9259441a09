-- The statement on a race whose actors did their parts, from the law of races that were made.
use Rattle.std.proofs.Common.{ℕ, zero, suc, ◌≡◌, ◌<◌, ◌≤◌, Bool, cond, List, [], ◌∷◌, ◌++◌, length, map, refl, sym, ap, subst, ◌∙◌, inl, inr, arith}
use Rattle.std.specs.Prelude.{All, IfSome, Option, Some, count_by, slice_get, slice_index_or}
use Rattle.std.specs.Option.{ForSome}
use Rattle.std.proofs.lemmas.Bool.{cases_lt, ne_eqb}
use Rattle.std.proofs.lemmas.List.{append-nil, get_or_past, length-map}
use Rattle.std.proofs.lemmas.Option.{none-some, same_Some, slice_get-get_or}
use Rattle.calls_among_others.specs.StepsAmong.{HasCome}
use Rattle.calls_among_others.proofs.ActorsSteps.{calls_are_asked}
use Rattle.race_laws.specs.BegunCalls.{BegunActorsAreSoFar}
use Rattle.race_laws.specs.RaceReplies.{HasChannel, IsDrainAnswered}
use Rattle.race_laws.specs.Races.{IsFewWhereDrain, calls_of}
use Rattle.race_laws.specs.RacesMade.{AreMadeSoFar, IsActorMade, RacesMadeAreInOrder}
use Rattle.race_runs.specs.RaceHeadline.{RaceChannelsHold, RaceHeadline}
use Rattle.race_runs.proofs.RaceHeadline.{numbered, ordered_races_hold}
use Rattle.race_runs.proofs.RaceRoom.{turns_of_all}
use Rattle.run_laws.specs.Runs.{Run, channels_of, data_in}
use Rattle.run_laws.proofs.ChangedRuns.{runs_as_many}
use Rattle.serial_laws.proofs.Lists.{all_numbered, sum_of_none}
use Rattle.shared_lemmas.proofs.Lists.{all_at, numbered_at}
use Rattle.ssd_formats.specs.ImageHead.{Head}
use Rattle.ssd_geo.specs.declared.entry.Entry.{Entry}
use Rattle.ssd_geo.specs.declared.reply.Reply.{Reply}
use Rattle.ssd_geo.specs.declared.tag.Tag.{Tag}
use Rattle.ssd_geo.specs.declared.trace.TraceCall.{TraceCall}
use Rattle.ssd_geo.specs.declared.trace.Verb.{Verb}
use Rattle.ssd_histories.specs.CallSteps.{CallStep, is_fault, steps_of}
use Rattle.ssd_histories.specs.CallsInOrder.{AreNumberedAfter, ChannelRun, answered_by, reply_to, count_of_faults, hints_taken, looks_in_steps, steps_on}
use Rattle.ssd_histories.specs.Lawful.{IsLawful}
use Rattle.ssd_histories.specs.Start.{Start}
use Rattle.made_races.specs.MadeRaces.{ActorsFindAllRoom, ActorsMade, IsOfActors, MadeRacesHold}
use Rattle.made_races.proofs.EndedRaces.{first_is, own_place}
use Rattle.made_races.proofs.SeenPasts.{room_stays}

-- an actor that isn't one of the trace has no call
no_calls : (actors actor : ℕ) (before calls : List TraceCall) → AreNumberedAfter actors before calls → actors ≤ actor →
    calls_of actor calls ≡ []
no_calls actors actor before [] numbered above = refl
no_calls actors actor before (call ∷ calls) numbered above =
    let low = numbered.0.is_actor in
    ap {B = List TraceCall} (λ (b : Bool). cond b (call ∷ calls_of actor calls) (calls_of actor calls))
    (ne_eqb call.tag.actor actor (λ same. omega (arith, same, low, above)))
    ∙ no_calls actors actor (before ++ call ∷ []) calls numbered.1 above

-- a call that made no step took no hint, and no die's call failed in it
no_steps_few : (runs : List ChannelRun) (tag : Tag) (verb : Verb) → All (λ run. steps_on tag run ≡ []) runs →
    IsFewWhereDrain runs tag verb
no_steps_few runs tag (Verb.Drain count) none =
    let hints : hints_taken runs tag ≡ 0 =
    sum_of_none (λ run. looks_in_steps (steps_on tag run)) runs
    (λ k other within. ap {B = ℕ} (λ (steps : List CallStep). looks_in_steps steps) (none k other within)) in
    let faults : count_of_faults runs tag ≡ 0 =
    sum_of_none (λ run. count_by (λ step. is_fault step.entry.kind) (steps_on tag run)) runs
    (λ k other within.
    ap {B = ℕ} (λ (steps : List CallStep). count_by (λ step. is_fault step.entry.kind) steps) (none k other within)) in
    record { few = omega (arith, hints); one_fault = omega (arith, faults) }
no_steps_few runs tag verb none = tt

-- the entries of a past are of others than a number that is no actor's
none_of : (actors actor : ℕ) (past : List Entry) → actors ≤ actor → All (λ entry. entry.tag.actor < actors) past →
    HasCome actor [] past
none_of actors actor past above of_actors = record {
  others = past;
  after_is = sym (append-nil past);
  of_others = λ k other within same. let low = of_actors k other within in omega (arith, low, same, above);
}

-- an answered call and its reply
paired : (answered : List (TraceCall × Reply)) (rest : List TraceCall) (n : ℕ) (call : TraceCall) (reply : Reply) →
    slice_get (map (λ (one : TraceCall × Reply). one.0) answered ++ rest) n ≡ Some call →
    slice_get (map (λ (one : TraceCall × Reply). one.1) answered) n ≡ Some reply → slice_get answered n ≡ Some (call, reply)
paired [] rest n call reply is gives = absurd (none-some reply gives)
paired (one ∷ answered) rest zero call reply is gives =
    let same_call = same_Some one.0 call is in
    let same_reply = same_Some one.1 reply gives in
    λ i. Some (same_call i, same_reply i)
paired (one ∷ answered) rest (suc n) call reply is gives = paired answered rest n call reply is gives

-- what an actor made so far leaves its calls after the next one without a step
none_later : (begun_law : BegunActorsAreSoFar) (start : Start) (contents : List (Tag × List ℕ)) (channels channel actor : ℕ)
    (answered : List (TraceCall × Reply)) (rest : List TraceCall) (past : List Entry) (tag : Tag) → IsLawful start contents past →
    AreMadeSoFar start contents channels channel actor answered rest past → tag.actor ≡ actor → length answered < tag.call →
    steps_of tag past ≡ []
none_later begun_law start contents channels channel actor answered rest past tag lawful (inl made) own later =
    (calls_are_asked start contents channels channel actor answered past made).none_later tag own (omega (arith, later))
none_later begun_law start contents channels channel actor answered rest past tag lawful (inr stopped) own later =
    (begun_law start contents channels channel actor answered stopped.call stopped.later past lawful stopped.are_made).none_later tag
    own later

module _ (begun_law : BegunActorsAreSoFar) (head : Head) (run : Run) (made : ActorsMade head run) where
  abbrev runs : List ChannelRun
  runs = channels_of run

  many : length runs ≡ length run.starts
  many = runs_as_many run.starts run.pasts made.closed.as_many_pasts

  lawful : All (λ (channel : ChannelRun). IsLawful channel.start (data_in head run) channel.past) runs
  lawful = λ k other within. (made.closed.are_pasts k other within).is_lawful

  -- a number that is no actor's has no call and no entry
  outside : (actor : ℕ) → run.calls.actors ≤ actor → IsActorMade (data_in head run) run.calls.calls run.replies runs actor
  outside actor above =
      let actors = made.has_calls.as_many_actors in
      record {
        are_calls = record {
          answered = [];
          rest = [];
          are_calls = sym (no_calls run.calls.actors actor [] run.calls.calls made.has_calls.numbered above);
          are_replies = sym (get_or_past run.replies actor [] (omega (arith, above, actors)));
        };
        on_channels =
            all_numbered
            (λ (item : ℕ × ChannelRun).
            AreMadeSoFar item.1.start (data_in head run) (length runs) item.0 actor [] [] item.1.past) runs
            (λ i channel there.
            inl (none_of run.calls.actors actor channel.past above
            (all_at (IsOfActors run.calls.actors) runs i channel made.closed.of_actors there)));
      }

  each_made : (actor : ℕ) → IsActorMade (data_in head run) run.calls.calls run.replies runs actor
  each_made actor =
      elim (cases_lt actor run.calls.actors) [ inl below ↦ (made.each actor below).made | inr above ↦ outside actor above ]

  -- a call after the first one of its actor without a reply made no step
  none_made : (call : TraceCall) → answered_by run.replies call.tag.actor < call.tag.call →
      All (λ channel. steps_on call.tag channel ≡ []) runs
  none_made call later = λ k other within.
      let channel : ChannelRun = slice_index_or runs k other in
      let own = each_made call.tag.actor in
      let replies : length own.are_calls.answered ≡ answered_by run.replies call.tag.actor =
      sym (length-map own.are_calls.answered (λ (one : TraceCall × Reply). one.1))
      ∙ ap {B = ℕ} (λ (list : List Reply). length list) own.are_calls.are_replies in
      none_later begun_law channel.start (data_in head run) (length runs) k call.tag.actor own.are_calls.answered own.are_calls.rest
      channel.past call.tag (lawful k other within)
      (numbered_at
      (λ (item : ℕ × ChannelRun).
      AreMadeSoFar item.1.start (data_in head run) (length runs) item.0 call.tag.actor own.are_calls.answered own.are_calls.rest
      item.1.past) runs k channel own.on_channels (slice_get-get_or runs k other within))
      refl (omega (arith, later, replies))

  begun : All (λ call. answered_by run.replies call.tag.actor ≤ call.tag.call → IsFewWhereDrain runs call.tag call.verb)
      run.calls.calls
  begun = λ k other within reached.
      let call : TraceCall = slice_index_or run.calls.calls k other in
      elim (cases_lt (answered_by run.replies call.tag.actor) call.tag.call) [
        | inl later ↦ no_steps_few runs call.tag call.verb (none_made call later)
        | inr here ↦
            subst (λ (next : Option TraceCall). IfSome next (λ one. IsFewWhereDrain runs one.tag one.verb))
            (first_is head run made.has_calls k other within (omega (arith, reached, here)))
            (made.each call.tag.actor (numbered head run made.has_calls k other within).is_actor).begun
      ]

  -- a call with its reply stands among the answered ones of its actor
  drained : All (λ call. ForSome (reply_to run.replies call.tag) (IsDrainAnswered call.verb)) run.calls.calls
  drained = λ k other within reply is.
      let call : TraceCall = slice_index_or run.calls.calls k other in
      let own = made.each call.tag.actor (numbered head run made.has_calls k other within).is_actor in
      let calls = own.made.are_calls in
      all_at (λ (one : TraceCall × Reply). IsDrainAnswered one.0.verb one.1) calls.answered call.tag.call (call, reply) own.drained
      (paired calls.answered calls.rest call.tag.call call reply
      (ap {B = Option TraceCall} (λ (list : List TraceCall). slice_get list call.tag.call) calls.are_calls
      ∙ own_place head run made.has_calls k other within)
      (ap {B = Option Reply} (λ (list : List Reply). slice_get list call.tag.call) calls.are_replies ∙ is))

  hold : RaceChannelsHold head run
  hold = record {
    as_many_pasts = made.closed.as_many_pasts;
    are_pasts = made.closed.are_pasts;
    are_counted = made.closed.are_counted;
    few_channels = made.closed.few_channels;
    are_short = made.closed.are_short;
    serials = made.closed.serials;
  }

  holds : RacesMadeAreInOrder → RaceHeadline head run
  holds races_law =
      let both =
      races_law (data_in head run) run.calls.actors run.calls.calls run.replies runs made.has_calls.numbered lawful each_made
      (subst (λ (n : ℕ). All (λ call. HasChannel n call.verb) run.calls.calls) (sym many) made.have_channels) drained begun in
      ordered_races_hold head run made.has_calls hold both.0 both.1

pub made_races_hold : BegunActorsAreSoFar → RacesMadeAreInOrder → MadeRacesHold
made_races_hold begun_law races_law head run made = holds begun_law head run made races_law

-- each entry found room, since each actor's did
pub actors_find_all_room : ActorsFindAllRoom
actors_find_all_room run of_actors each = λ k other within.
    let channel : ChannelRun = slice_index_or (channels_of run) k other in
    turns_of_all channel.start.limit channel.past
    (λ actor.
    elim (cases_lt actor run.calls.actors) [
      | inl below ↦ each actor below k other within
      | inr above ↦
          room_stays channel.start.limit actor [] channel.past
          (none_of run.calls.actors actor channel.past above (of_actors k other within)) refl
    ])
