-- What is asked of each actor on each channel, put together: each call of the trace is as its place among its actor's says.
use Rattle.std.proofs.Common.{ℕ, ◌≡◌, ◌+◌, ◌<◌, ◌≤◌, ◌%◌, ◌==◌, Bool, true, false, List, [], ◌∷◌, ◌++◌, length, map, Some, refl, sym, ap, subst, ◌∙◌, inl, inr, eqb-true, eq-eqb, arith}
use Rattle.std.specs.Prelude.{All, IsTrue, nat_lt, option_map, slice_get}
use Rattle.std.specs.List.{list_all}
use Rattle.std.proofs.lemmas.Bool.{cases_eq, false≢true, ltb-false, ltb-true}
use Rattle.std.proofs.lemmas.List.{length-map}
use Rattle.std.proofs.lemmas.List.Elements.{All-head}
use Rattle.std.proofs.lemmas.List.Sums.{list_all-from_AllPass}
use Rattle.std.proofs.lemmas.Option.{get_or_from_slice_get, slice_get-map, same_Some}
use Rattle.ssd_geo.specs.declared.reply.Reply.{Reply}
use Rattle.ssd_geo.specs.declared.tag.Tag.{Tag}
use Rattle.ssd_geo.specs.declared.trace.TraceCall.{TraceCall}
use Rattle.ssd_geo.specs.declared.trace.Verb.{Verb}
use Rattle.ssd_histories.specs.CallSteps.{CallStep}
use Rattle.ssd_histories.specs.CallsInOrder.{AreCallSteps, ChannelRun, IsAsAnswered, IsBegun, IsBegunOn, IsNotMade, IsWhole, TookAtMost, answered_by, count_of_faults, hints_taken, is_left, is_of_call, ladder_in, never_fall, steps_on}
use Rattle.serial_laws.proofs.Lists.{IsItemAt, all_both, all_numbered, item_at}
use Rattle.serial_laws.proofs.MadeSteps.{faults_in}
use Rattle.serial_laws.proofs.UnbegunCalls.{as_answered, as_first}
use Rattle.calls_among_others.specs.ActorsCalls.{IsAsked}
use Rattle.calls_among_others.proofs.ActorsSteps.{each_known, none_falls}
use Rattle.race_laws.specs.Races.{AreAskedSoFar, IsActorAsked, IsBegunThere, IsFewWhereDrain, RacesAreInOrder, first_of}
use Rattle.race_laws.proofs.CountedFaults.{IsOneAt, channel_named, no_steps_elsewhere, sum_of_one}
use Rattle.race_laws.proofs.PlacedCalls.{IsPlacedIn, are_placed, get_of_first, get_second, known_in_trace}
use Rattle.shared_lemmas.proofs.Lists.{all_at, numbered_at, in_front_of}

-- of a drain few is asked, and of other calls nothing
few_hints : (runs : List ChannelRun) (tag : Tag) (verb : Verb) → IsFewWhereDrain runs tag verb →
    TookAtMost verb (hints_taken runs tag)
few_hints runs tag (Verb.Write page content) few = tt
few_hints runs tag (Verb.Read page) few = tt
few_hints runs tag (Verb.Trim page) few = tt
few_hints runs tag (Verb.Refresh page) few = tt
few_hints runs tag (Verb.Collect channel) few = tt
few_hints runs tag (Verb.Drain count) few = few.few
few_hints runs tag (Verb.Age channel die sb amount) few = tt

-- the failed calls of a call on all channels are at most one where they are on each, and there are none on those not its own
module _ (runs : List ChannelRun) (tag : Tag)
    (each : (i : ℕ) (run : ChannelRun) → slice_get runs i ≡ Some run → faults_in (steps_on tag run) ≤ 1) where
  abbrev IsNoneElsewhere : ℕ → Type 0
  IsNoneElsewhere place =
      (i : ℕ) (run : ChannelRun) → slice_get runs i ≡ Some run → (place == i) ≡ false → steps_on tag run ≡ []

  on_named : (place : ℕ) → IsNoneElsewhere place → count_of_faults runs tag ≤ 1
  on_named place none =
      sum_of_one (λ (run : ChannelRun). faults_in (steps_on tag run)) place 0 runs
      (all_numbered (IsOneAt (λ (run : ChannelRun). faults_in (steps_on tag run)) place) runs
      (λ i run is. (each i run is, λ other. ap faults_in (none i run is other))))

  few_faults : (verb : Verb) → IsFewWhereDrain runs tag verb →
      ((place : ℕ) → channel_named (length runs) verb ≡ Some place → IsNoneElsewhere place) → count_of_faults runs tag ≤ 1
  few_faults (Verb.Write page content) few none = on_named (page % length runs) (none (page % length runs) refl)
  few_faults (Verb.Read page) few none = on_named (page % length runs) (none (page % length runs) refl)
  few_faults (Verb.Trim page) few none = on_named (page % length runs) (none (page % length runs) refl)
  few_faults (Verb.Refresh page) few none = on_named (page % length runs) (none (page % length runs) refl)
  few_faults (Verb.Collect channel) few none = on_named channel (none channel refl)
  few_faults (Verb.Drain count) few none = few.one_fault
  few_faults (Verb.Age channel die sb amount) few none = on_named channel (none channel refl)

-- what holds of each item at its place holds of all
pub all_items : {X : Type 0} (P : X → Type 0) (xs : List X) → ((i : ℕ) (x : X) → slice_get xs i ≡ Some x → P x) → All P xs
all_items P xs each i d within =
    let found : IsItemAt xs i = item_at xs i within in
    subst P (sym (get_or_from_slice_get xs i found.item d found.is_there)) (each i found.item found.is_there)

no_first_steps : (steps rest : List CallStep) → steps ++ rest ≡ [] → steps ≡ []
no_first_steps [] rest none = refl
no_first_steps (step ∷ steps) rest none = absurd (grind arith)

module _ (contents : List (Tag × List ℕ)) (runs : List ChannelRun) (call : TraceCall)
    (few : IsFewWhereDrain runs call.tag call.verb) where
  -- an answered call is whole
  is_whole : (reply : Reply) →
      ((i : ℕ) (run : ChannelRun) → slice_get runs i ≡ Some run → IsAsked contents (length runs) i run (call, reply)) →
      IsWhole contents runs call
  is_whole reply asked = record {
    on_channels =
        all_numbered (λ item. AreCallSteps contents (length runs) call item (steps_on call.tag item.1)) runs
        (λ i run is. (asked i run is).are_whole);
    few = few_hints runs call.tag call.verb few;
    one_fault =
        few_faults runs call.tag (λ i run is. (asked i run is).one_fault) call.verb few
        (λ place named i run is other.
        no_steps_elsewhere (ladder_in contents run) run.start.base (length runs) i place (steps_on call.tag run) other call.verb
        named (asked i run is).are_whole);
  }

  -- one without a reply is begun
  is_begun :
      ((i : ℕ) (run : ChannelRun) → slice_get runs i ≡ Some run → IsBegunThere contents (length runs) i run call) →
      IsBegun contents runs call
  is_begun begun = record {
    on_channels = all_numbered (IsBegunOn contents (length runs) call) runs (λ i run is. (begun i run is).begins);
    few = few_hints runs call.tag call.verb few;
    one_fault =
        few_faults runs call.tag (λ i run is. (begun i run is).one_fault) call.verb few
        (λ place named i run is other.
        no_first_steps (steps_on call.tag run) (begun i run is).begins.rest
        (no_steps_elsewhere (ladder_in contents run) run.start.base (length runs) i place
        (steps_on call.tag run ++ (begun i run is).begins.rest) other call.verb named (begun i run is).begins.begins));
    are_left =
        list_all-from_AllPass (is_left call.tag) runs
        (all_items (λ (run : ChannelRun). is_left call.tag run ≡ true) runs (λ i run is. (begun i run is).leaves));
  }

-- a number that is no less than another and is not that one
beyond : (n least : ℕ) → least ≤ n → (n ≡ least → ⊥) → least < n
beyond n least low other = elim (cases_eq n least) [
  | inl same ↦ absurd (other same)
  | inr differs ↦ omega (arith, low, differs)
]

-- a call that comes later than an actor's first one without a reply was not made
as_later : (contents : List (Tag × List ℕ)) (runs : List ChannelRun) (answered is_first : Bool) (call : TraceCall) →
    answered ≡ false → is_first ≡ false → IsNotMade runs call → IsAsAnswered contents runs answered is_first call
as_later contents runs true is_first call is later none = absurd (grind arith)
as_later contents runs false true call is later none = absurd (grind arith)
as_later contents runs false false call is later none = none

-- the answered call that stands at a place of an actor's
pub record IsAnsweredAt (answered : List (TraceCall × Reply)) (number : ℕ) (call : TraceCall) : Type 0 where
  pub reply : Reply
  pub is_there : slice_get answered number ≡ Some (call, reply)

pub answered_at : (answered : List (TraceCall × Reply)) (number : ℕ) (call : TraceCall) → number < length answered →
    slice_get (map (λ made. made.0) answered) number ≡ Some call → IsAnsweredAt answered number call
answered_at answered number call low is =
    let found : IsItemAt answered number = item_at answered number low in
    let same : found.item.0 ≡ call =
    same_Some found.item.0 call
    (sym (slice_get-map (λ (made : TraceCall × Reply). made.0) answered number
    ∙ ap (option_map (λ (made : TraceCall × Reply). made.0)) found.is_there)
    ∙ is) in
    record {
      reply = found.item.1;
      is_there = found.is_there ∙ (λ i. Some (same i, found.item.1));
    }

module _ (contents : List (Tag × List ℕ)) (actors : ℕ) (calls : List TraceCall) (replies : List (List Reply))
    (runs : List ChannelRun) (asked : (actor : ℕ) → IsActorAsked contents calls replies runs actor) where
  abbrev IsPlaced : TraceCall → Type 0
  IsPlaced call =
      IsAsAnswered contents runs (nat_lt call.tag.call (answered_by replies call.tag.actor))
      (call.tag.call == answered_by replies call.tag.actor) call

  pub so_far : (actor i : ℕ) (run : ChannelRun) → slice_get runs i ≡ Some run →
      AreAskedSoFar contents (length runs) i actor run (asked actor).are_calls.answered (asked actor).are_calls.rest
  so_far actor i run is =
      numbered_at
      (λ (item : ℕ × ChannelRun).
      AreAskedSoFar contents (length runs) item.0 actor item.1 (asked actor).are_calls.answered (asked actor).are_calls.rest)
      runs i run (asked actor).on_channels is

  pub many_answered : (actor : ℕ) → answered_by replies actor ≡ length (asked actor).are_calls.answered
  many_answered actor =
      sym (ap (λ (list : List Reply). length list) (asked actor).are_calls.are_replies)
      ∙ length-map (asked actor).are_calls.answered (λ made. made.1)

  -- a call of the trace, by its number
  module _ (call : TraceCall) (placed : IsPlacedIn calls call) where
    there : slice_get
        (map (λ made. made.0) (asked call.tag.actor).are_calls.answered ++ (asked call.tag.actor).are_calls.rest)
        call.tag.call ≡ Some call
    there = ap (λ (list : List TraceCall). slice_get list call.tag.call) (asked call.tag.actor).are_calls.are_calls ∙ placed

    many_firsts : length (map (λ made. made.0) (asked call.tag.actor).are_calls.answered) ≡
        answered_by replies call.tag.actor
    many_firsts = length-map (asked call.tag.actor).are_calls.answered (λ made. made.0) ∙ sym (many_answered call.tag.actor)

    pub found_answered : call.tag.call < answered_by replies call.tag.actor →
        IsAnsweredAt (asked call.tag.actor).are_calls.answered call.tag.call call
    found_answered low =
        let low_there : call.tag.call < length (map (λ made. made.0) (asked call.tag.actor).are_calls.answered) =
        omega (arith, low, many_firsts) in
        let many = many_answered call.tag.actor in
        answered_at (asked call.tag.actor).are_calls.answered call.tag.call call (omega (arith, low, many))
        (sym (in_front_of (map (λ made. made.0) (asked call.tag.actor).are_calls.answered)
        (asked call.tag.actor).are_calls.rest call.tag.call low_there) ∙ there)

    pub asked_at : (found : IsAnsweredAt (asked call.tag.actor).are_calls.answered call.tag.call call) (i : ℕ)
        (run : ChannelRun) → slice_get runs i ≡ Some run → IsAsked contents (length runs) i run (call, found.reply)
    asked_at found i run is =
        all_at (IsAsked contents (length runs) i run) (asked call.tag.actor).are_calls.answered call.tag.call
        (call, found.reply) (so_far call.tag.actor i run is).each found.is_there

    whole : call.tag.call < answered_by replies call.tag.actor → IsFewWhereDrain runs call.tag call.verb →
        IsWhole contents runs call
    whole low few =
        let found = found_answered low in is_whole contents runs call few found.reply (asked_at found)

    begun : call.tag.call ≡ answered_by replies call.tag.actor → IsFewWhereDrain runs call.tag call.verb →
        IsBegun contents runs call
    begun number few =
        let place : length (map (λ made. made.0) (asked call.tag.actor).are_calls.answered) + 0 ≡ call.tag.call =
        omega (arith, many_firsts, number) in
        let first : first_of (asked call.tag.actor).are_calls.rest ≡ call ∷ [] =
        get_of_first (asked call.tag.actor).are_calls.rest call
        (sym (get_second (map (λ made. made.0) (asked call.tag.actor).are_calls.answered)
        (asked call.tag.actor).are_calls.rest 0)
        ∙ ap (slice_get (map (λ made. made.0) (asked call.tag.actor).are_calls.answered
        ++ (asked call.tag.actor).are_calls.rest)) place
        ∙ there) in
        is_begun contents runs call few
        (λ i run is.
        All-head (IsBegunThere contents (length runs) i run) call []
        (subst (All (IsBegunThere contents (length runs) i run)) first (so_far call.tag.actor i run is).begun))

    not_made : answered_by replies call.tag.actor < call.tag.call → IsNotMade runs call
    not_made late =
        let many = many_answered call.tag.actor in
        all_items (λ (run : ChannelRun). steps_on call.tag run ≡ []) runs
        (λ i run is. (so_far call.tag.actor i run is).none_later call.tag refl (omega (arith, late, many)))

    is_placed : (call.tag.call ≤ answered_by replies call.tag.actor → IsFewWhereDrain runs call.tag call.verb) →
        IsPlaced call
    is_placed few = by_tests (nat_lt call.tag.call (answered_by replies call.tag.actor))
        (call.tag.call == answered_by replies call.tag.actor) refl refl
      where
        by_tests : (low same : Bool) → nat_lt call.tag.call (answered_by replies call.tag.actor) ≡ low →
            (call.tag.call == answered_by replies call.tag.actor) ≡ same →
            IsPlaced call
        by_tests true same is_low is_same =
            let low : call.tag.call < answered_by replies call.tag.actor =
            ltb-true call.tag.call (answered_by replies call.tag.actor) is_low in
            as_answered contents runs (nat_lt call.tag.call (answered_by replies call.tag.actor))
            (call.tag.call == answered_by replies call.tag.actor) call is_low (whole low (few (omega (arith, low))))
        by_tests false true is_low is_same =
            let number : call.tag.call ≡ answered_by replies call.tag.actor =
            eqb-true call.tag.call (answered_by replies call.tag.actor) is_same in
            as_first contents runs (nat_lt call.tag.call (answered_by replies call.tag.actor))
            (call.tag.call == answered_by replies call.tag.actor) call is_low is_same
            (begun number (few (omega (arith, number))))
        by_tests false false is_low is_same =
            let least : answered_by replies call.tag.actor ≤ call.tag.call =
            ltb-false call.tag.call (answered_by replies call.tag.actor) is_low in
            let other : call.tag.call ≡ answered_by replies call.tag.actor → ⊥ =
            λ same. false≢true (sym is_same ∙ eq-eqb call.tag.call (answered_by replies call.tag.actor) same) in
            as_later contents runs (nat_lt call.tag.call (answered_by replies call.tag.actor))
            (call.tag.call == answered_by replies call.tag.actor) call is_low is_same
            (not_made (beyond call.tag.call (answered_by replies call.tag.actor) least other))

  known : (i : ℕ) (run : ChannelRun) → slice_get runs i ≡ Some run → list_all (is_of_call calls) run.past ≡ true
  known i run is =
      each_known calls run.past (λ actor.
      known_in_trace actor (map (λ made. made.0) (asked actor).are_calls.answered) (asked actor).are_calls.rest calls run.past
      (asked actor).are_calls.are_calls (so_far actor i run is).known)

  falls : (i : ℕ) (run : ChannelRun) → slice_get runs i ≡ Some run → never_fall run.past ≡ true
  falls i run is = none_falls run.past (λ actor. (so_far actor i run is).in_order)

pub races_in_order : RacesAreInOrder
races_in_order contents actors calls replies runs numbered asked few = record {
  known =
      all_items (λ (run : ChannelRun). IsTrue (list_all (is_of_call calls) run.past)) runs
      (known contents actors calls replies runs asked);
  in_order =
      all_items (λ (run : ChannelRun). IsTrue (never_fall run.past)) runs (falls contents actors calls replies runs asked);
  made =
      all_both (IsPlacedIn calls)
      (λ call. call.tag.call ≤ answered_by replies call.tag.actor → IsFewWhereDrain runs call.tag call.verb)
      (IsPlaced contents actors calls replies runs asked) (is_placed contents actors calls replies runs asked) calls
      (are_placed actors [] calls numbered) few;
}
