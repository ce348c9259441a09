-- The calls of an actor so far: answered one after the other on each channel, among the calls of others; and one call more.
use Rattle.std.proofs.Common.{ℕ, suc, ◌≡◌, ◌+◌, ◌==◌, true, false, List, [], ◌∷◌, ◌++◌, length, map, Some, refl, sym, ap, subst, ◌∙◌, inl, inr, append-nil, arith}
use Rattle.std.specs.Prelude.{All, Err, IfSome, None, Ok, Option, slice_get}
use Rattle.std.proofs.lemmas.List.{length-map}
use Rattle.std.proofs.lemmas.List.Elements.{All-append, All-cons, All-nil, filter-append}
use Rattle.std.proofs.lemmas.List.{map-append}
use Rattle.chan_calls.specs.Caller.{CallerView}
use Rattle.hint_queue.specs.Orders.{HintPassState}
use Rattle.ssd_geo.specs.declared.entry.Entry.{Entry}
use Rattle.ssd_geo.specs.declared.reply.Reply.{Reply}
use Rattle.ssd_geo.specs.declared.stop.ServeStop.{ServeStop}
use Rattle.ssd_geo.specs.declared.tag.Tag.{Tag}
use Rattle.ssd_geo.specs.declared.trace.TraceCall.{TraceCall}
use Rattle.ssd_geo.specs.declared.trace.Verb.{Verb}
use Rattle.ssd_histories.specs.Start.{Start}
use Rattle.calls_among_others.specs.ActorsCalls.{AreMadeAmong, first_tag, next_tag}
use Rattle.calls_among_others.specs.CallsAmong.{IsCallAmong}
use Rattle.calls_among_others.specs.StepsAmong.{HasCome}
use Rattle.calls_among_others.proofs.AmongSteps.{none_came, steps_later}
use Rattle.race_laws.specs.BegunCalls.{IsBegunAmong}
use Rattle.race_laws.specs.RaceReplies.{IsDrainAnswered}
use Rattle.race_laws.specs.Races.{calls_of}
use Rattle.race_laws.specs.RacesMade.{AreMadeSoFar}
use Rattle.actor_calls.specs.Actors.{AreNew, AreNumbered, HasServed, UsePass, are_made_on, are_made_so_far}
use Rattle.actor_calls.specs.Hinted.{UsesPass}
use Rattle.actor_calls.specs.Known.{AreSameCallers, ChannelFact, OfEachChannel}
use Rattle.actor_calls.specs.Served.{IsAnswered, IsStopped, is_begun_on, is_call_on}
use Rattle.actor_calls.proofs.DrainedChannels.{each_then}

module _ (start : Start) (contents : List (Tag × List ℕ)) (channels channel : ℕ) where
  -- a call to whose beginning others came
  call_later : (tag : Tag) (verb : Verb) (before between after : List Entry) (reply : Reply) →
      HasCome tag.actor before between → IsCallAmong start contents channels channel tag verb between after reply →
      IsCallAmong start contents channels channel tag verb before after reply
  call_later tag verb before between after reply came call = record {
    steps = call.steps;
    are_steps = steps_later tag before between after call.steps came call.are_steps;
    of_verb = call.of_verb;
    decide = call.decide;
    one_fault = call.one_fault;
  }

  -- one call more
  made_more : (tag : Tag) (answered : List (TraceCall × Reply)) (call : TraceCall) (reply : Reply)
      (before between after : List Entry) → call.tag ≡ record { actor = tag.actor; call = length answered + tag.call } →
      AreMadeAmong start contents channels channel tag answered before between →
      IsCallAmong start contents channels channel call.tag call.verb between after reply →
      AreMadeAmong start contents channels channel tag (answered ++ (call, reply) ∷ []) before after
  made_more tag [] call reply before between after is came made =
      let number : 0 + tag.call ≡ tag.call = omega arith in
      let same : call.tag ≡ tag =
      is ∙ ap (λ (n : ℕ). let t : Tag = record { actor = tag.actor; call = n } in t) number in (
        after,
        same,
        call_later tag call.verb before between after reply came
            (subst (λ (t : Tag). IsCallAmong start contents channels channel t call.verb between after reply) same made),
        none_came tag.actor after,
      )
  made_more tag (first ∷ answered) call reply before between after is before_it made =
      let number : suc (length answered) + tag.call ≡ length answered + suc tag.call = omega arith in
      let later : call.tag ≡ record { actor = tag.actor; call = length answered + suc tag.call } =
      is ∙ ap (λ (n : ℕ). let t : Tag = record { actor = tag.actor; call = n } in t) number in (
        before_it.0,
        before_it.1,
        before_it.2,
        made_more (next_tag tag) answered call reply before_it.0 between after later before_it.3 made,
      )

-- what the calls made of the pass, and one call more
uses_more : (answered : List (TraceCall × Reply)) (call : TraceCall) (reply : Reply) (old between new : HintPassState) →
    UsePass answered old between → UsesPass call.verb (Ok reply) between new →
    UsePass (answered ++ (call, reply) ∷ []) old new
uses_more [] call reply old between new same uses =
    (new, subst (λ (pass : HintPassState). UsesPass call.verb (Ok reply) pass new) same uses, refl)
uses_more (first ∷ answered) call reply old between new before uses =
    (before.0, before.1, uses_more answered call reply before.0 between new before.2 uses)

-- the item after a list
item_after : {X : Type 0} (xs : List X) (x : X) (ys : List X) → slice_get (xs ++ x ∷ ys) (length xs) ≡ Some x
item_after [] x ys = refl
item_after (y ∷ xs) x ys = item_after xs x ys

-- the calls of an actor of some calls, and of one more
of_one : (actor : ℕ) (call : TraceCall) → (call.tag.actor == actor) ≡ true → calls_of actor (call ∷ []) ≡ call ∷ []
of_one actor call own = rw own refl

of_none : (actor : ℕ) (call : TraceCall) (calls : List TraceCall) → (call.tag.actor == actor) ≡ false →
    calls_of actor (call ∷ calls) ≡ calls_of actor calls
of_none actor call calls other = rw other refl

of_first : (actor : ℕ) (call : TraceCall) (calls : List TraceCall) → (call.tag.actor == actor) ≡ true →
    calls_of actor (call ∷ calls) ≡ call ∷ calls_of actor calls
of_first actor call calls own = rw own refl

calls_join : (actor : ℕ) (calls more : List TraceCall) → calls_of actor (calls ++ more) ≡ calls_of actor calls ++ calls_of actor more
calls_join actor calls more = filter-append (λ (call : TraceCall). call.tag.actor == actor) calls more

-- what was served so far, of these calls of a trace
pub record ActsSoFar (olds news : List CallerView) (actor : ℕ) (calls : List TraceCall) (replies : List Reply)
    (old_pass new_pass : HintPassState) : Type 0 where
  pub answered : List (TraceCall × Reply)
  pub are_calls : map (λ made. made.0) answered ≡ calls_of actor calls
  pub are_replies : map (λ made. made.1) answered ≡ replies
  pub drained : All (λ made. IsDrainAnswered made.0.verb made.1) answered
  pub made : OfEachChannel (are_made_on (length olds) actor answered) olds news
  pub uses : UsePass answered old_pass new_pass

-- nothing was added to what was seen
none_made : (actor : ℕ) (olds : List CallerView) → OfEachChannel (are_made_on (length olds) actor []) olds olds
none_made actor olds n old new was now =
    let same : old ≡ new = let e : Some old ≡ Some new = sym was ∙ now in cc in
    subst (λ (caller : CallerView). IfSome old.bound (λ bound. HasCome actor old.seen caller.seen)) same
    (none_of old.bound)
  where
    none_of : (bound : Option (Start × List (Tag × List ℕ))) → IfSome bound (λ bound. HasCome actor old.seen old.seen)
    none_of None = tt
    none_of (Some bound) = none_came actor old.seen

pub acts_begin : (olds : List CallerView) (actor : ℕ) (pass : HintPassState) → ActsSoFar olds olds actor [] [] pass pass
acts_begin olds actor pass = record {
  answered = [];
  are_calls = refl;
  are_replies = refl;
  drained = All-nil (λ (made : TraceCall × Reply). IsDrainAnswered made.0.verb made.1);
  made = none_made actor olds;
  uses = refl;
}

module _ (olds mids : List CallerView) (actor : ℕ) (calls : List TraceCall) (replies : List Reply)
    (old_pass pass : HintPassState) (so_far : ActsSoFar olds mids actor calls replies old_pass pass) where
  -- a call of another actor
  pub acts_skip : (call : TraceCall) → (call.tag.actor == actor) ≡ false →
      ActsSoFar olds mids actor (calls ++ call ∷ []) replies old_pass pass
  acts_skip call other = record {
    answered = so_far.answered;
    are_calls =
        so_far.are_calls ∙ sym (append-nil (calls_of actor calls))
        ∙ sym (calls_join actor calls (call ∷ []) ∙ ap (λ (more : List TraceCall). calls_of actor calls ++ more)
        (of_none actor call [] other));
    are_replies = so_far.are_replies;
    drained = so_far.drained;
    made = so_far.made;
    uses = so_far.uses;
  }

  module _ (same : AreSameCallers olds mids) (call : TraceCall) (own : (call.tag.actor == actor) ≡ true) (rest : List TraceCall)
      (numbered : AreNumbered actor (calls_of actor (calls ++ call ∷ rest))) where
    -- the actor's calls from this one on
    pub from_here : calls_of actor (calls ++ call ∷ rest) ≡ map (λ made. made.0) so_far.answered ++ call ∷ calls_of actor rest
    from_here =
        calls_join actor calls (call ∷ rest)
        ∙ ap (λ (more : List TraceCall). calls_of actor calls ++ more) (of_first actor call rest own)
        ∙ ap (λ (before : List TraceCall). before ++ call ∷ calls_of actor rest) (sym so_far.are_calls)

    pub there : slice_get (calls_of actor (calls ++ call ∷ rest)) (length so_far.answered) ≡ Some call
    there =
        ap (λ (all : List TraceCall). slice_get all (length so_far.answered)) from_here
        ∙ ap (slice_get (map (λ made. made.0) so_far.answered ++ call ∷ calls_of actor rest))
        (sym (length-map so_far.answered (λ (made : TraceCall × Reply). made.0)))
        ∙ item_after (map (λ made. made.0) so_far.answered) call (calls_of actor rest)

    number_is : call.tag ≡ record { actor = actor; call = length so_far.answered }
    number_is = numbered (length so_far.answered) call there

    module _ (news : List CallerView) (new_pass : HintPassState) where
      -- it was answered
      pub acts_more : (reply : Reply) → IsAnswered mids news call.tag call.verb reply →
          UsesPass call.verb (Ok reply) pass new_pass →
          ActsSoFar olds news actor (calls ++ call ∷ []) (replies ++ reply ∷ []) old_pass new_pass
      acts_more reply is uses = record {
        answered = so_far.answered ++ (call, reply) ∷ [];
        are_calls =
            map-append (λ (made : TraceCall × Reply). made.0) so_far.answered ((call, reply) ∷ [])
            ∙ ap (λ (before : List TraceCall). before ++ call ∷ []) so_far.are_calls
            ∙ sym (calls_join actor calls (call ∷ [])
            ∙ ap (λ (more : List TraceCall). calls_of actor calls ++ more) (of_one actor call own));
        are_replies =
            map-append (λ (made : TraceCall × Reply). made.1) so_far.answered ((call, reply) ∷ [])
            ∙ ap (λ (before : List Reply). before ++ reply ∷ []) so_far.are_replies;
        drained =
            All-append (λ (made : TraceCall × Reply). IsDrainAnswered made.0.verb made.1) so_far.answered ((call, reply) ∷ [])
            so_far.drained
            (All-cons (λ (made : TraceCall × Reply). IsDrainAnswered made.0.verb made.1) (call, reply) [] is.drained
            (All-nil (λ (made : TraceCall × Reply). IsDrainAnswered made.0.verb made.1)));
        made =
            each_then olds mids news same (are_made_on (length olds) actor so_far.answered)
            (is_call_on (length mids) call.tag call.verb reply)
            (are_made_on (length olds) actor (so_far.answered ++ (call, reply) ∷ []))
            (λ n start contents before between after first second.
            made_more start contents (length olds) n (first_tag actor) so_far.answered call reply before between after
            (number_is ∙ ap (λ (k : ℕ). let t : Tag = record { actor = actor; call = k } in t)
            (let e : length so_far.answered ≡ length so_far.answered + 0 = omega arith in e)) first
            (subst (λ (count : ℕ). IsCallAmong start contents count n call.tag call.verb between after reply) same.as_many
            second)) so_far.made is.on_channels;
        uses = uses_more so_far.answered call reply old_pass pass new_pass so_far.uses uses;
      }

-- what holds of what a channel is bound to where nothing was seen of it at first
module _ (first second : ChannelFact)
    (follows : (n : ℕ) (start : Start) (contents : List (Tag × List ℕ)) (after : List Entry) → first n start contents [] after →
    second n start contents [] after) where
  bound_follows : (n : ℕ) (before after : List Entry) (bound : Option (Start × List (Tag × List ℕ))) → before ≡ [] →
      IfSome bound (λ bound. first n bound.0 bound.1 before after) →
      IfSome bound (λ bound. second n bound.0 bound.1 before after)
  bound_follows n before after None none holds = tt
  bound_follows n before after (Some bound) none holds =
      subst (λ (past : List Entry). second n bound.0 bound.1 past after) (sym none)
      (follows n bound.0 bound.1 after
      (subst (λ (past : List Entry). first n bound.0 bound.1 past after) none holds))

  each_follows : (olds news : List CallerView) → AreNew olds → OfEachChannel first olds news → OfEachChannel second olds news
  each_follows olds news fresh each n old new was now =
      bound_follows n old.seen new.seen old.bound (fresh n old was) (each n old new was now)

-- the actor comes to its end
module _ (olds mids : List CallerView) (actor : ℕ) (calls : List TraceCall) (replies : List Reply)
    (old_pass pass : HintPassState) (so_far : ActsSoFar olds mids actor calls replies old_pass pass) (fresh : AreNew olds) where
  made_so_far : (rest : List TraceCall) → OfEachChannel (are_made_so_far (length olds) actor so_far.answered rest) olds mids
  made_so_far rest =
      each_follows (are_made_on (length olds) actor so_far.answered)
      (are_made_so_far (length olds) actor so_far.answered rest) (λ n start contents after made. inl made) olds mids fresh
      so_far.made

  -- all calls were answered
  pub acts_all : HasServed olds mids actor calls replies None old_pass pass
  acts_all = record {
    answered = so_far.answered;
    rest = [];
    are_calls = append-nil (map (λ made. made.0) so_far.answered) ∙ so_far.are_calls;
    are_replies = so_far.are_replies;
    on_channels = made_so_far [];
    drained = so_far.drained;
    ends = record { none_left = refl; uses = so_far.uses };
  }

  -- memory for a reply was refused
  pub acts_refused : (rest : List TraceCall) →
      HasServed olds mids actor (calls ++ rest) replies (Some ServeStop.Memory) old_pass pass
  acts_refused rest = record {
    answered = so_far.answered;
    rest = calls_of actor rest;
    are_calls =
        ap (λ (before : List TraceCall). before ++ calls_of actor rest) so_far.are_calls ∙ sym (calls_join actor calls rest);
    are_replies = so_far.are_replies;
    on_channels = made_so_far (calls_of actor rest);
    drained = so_far.drained;
    ends = inl (record { stop_is = refl; uses = so_far.uses });
  }

  module _ (same : AreSameCallers olds mids) (call : TraceCall) (own : (call.tag.actor == actor) ≡ true) (rest : List TraceCall)
      (numbered : AreNumbered actor (calls_of actor (calls ++ call ∷ rest))) (news : List CallerView) where
    abbrev later : List TraceCall
    later = calls_of actor rest

    call_number : call.tag ≡ record { actor = actor; call = length so_far.answered }
    call_number = number_is olds mids actor calls replies old_pass pass so_far same call own rest numbered

    -- it began the next call on a channel of which it had seen nothing at first
    abbrev begins_next : ChannelFact
    begins_next n start contents before after =
        before ≡ [] → AreMadeSoFar start contents (length olds) n actor so_far.answered (call ∷ later) after

    begins : OfEachChannel (is_begun_on (length mids) call.tag call.verb) mids news → OfEachChannel begins_next olds news
    begins begun =
        each_then olds mids news same (are_made_on (length olds) actor so_far.answered)
        (is_begun_on (length mids) call.tag call.verb) begins_next
        (λ n start contents before between after first second none.
        inr (record {
          call = call;
          later = later;
          rest_is = refl;
          are_made = record {
            between = between;
            are_made =
                subst (λ (past : List Entry).
                AreMadeAmong start contents (length olds) n (first_tag actor) so_far.answered past between) none first;
            is_next = call_number;
            begun =
                subst (λ (count : ℕ). IsBegunAmong start contents count n call.tag call.verb between after) same.as_many
                second;
          };
        })) so_far.made begun

    -- it stopped in the next call
    pub acts_stop : (stop : ServeStop) (new_pass : HintPassState) → IsStopped mids news call.tag call.verb stop →
        UsesPass call.verb (Err stop) pass new_pass →
        HasServed olds news actor (calls ++ call ∷ rest) replies (Some stop) old_pass new_pass
    acts_stop stop new_pass stops uses = record {
      answered = so_far.answered;
      rest = call ∷ later;
      are_calls = sym (from_here olds mids actor calls replies old_pass pass so_far same call own rest numbered);
      are_replies = so_far.are_replies;
      on_channels =
          each_follows begins_next (are_made_so_far (length olds) actor so_far.answered (call ∷ later))
          (λ n start contents after begins. begins refl) olds news fresh (begins stops.on_channels);
      drained = so_far.drained;
      ends = inr (record {
        call = call;
        later = later;
        rest_is = refl;
        callers = mids;
        made = so_far.made;
        stops = stops;
        pass = pass;
        uses = so_far.uses;
        stop_uses = uses;
      });
    }
