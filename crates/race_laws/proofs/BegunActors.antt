-- The calls of an actor that stopped in one: what it made since the answered ones leaves their steps, and begins the one
-- after them.
use Rattle.std.proofs.Common.{ℕ, suc, ◌≡◌, ◌≢◌, ◌+◌, ◌<◌, ◌≤◌, ◌==◌, ◌&&◌, ◌||◌, not, Bool, true, false, List, [], ◌∷◌, ◌++◌, length, map, refl, sym, ap, subst, ◌∙◌, eqb-true, arith}
use Rattle.std.specs.Prelude.{All, nat_le}
use Rattle.std.specs.List.{list_all}
use Rattle.std.proofs.lemmas.Bool.Decides.{nat_tests}
use Rattle.std.proofs.lemmas.List.Elements.{All-cons, All-head, All-nil, All-tail}
use Rattle.std.proofs.lemmas.List.Folds.{list_any-append}
use Rattle.ssd_geo.specs.declared.entry.Entry.{Entry}
use Rattle.ssd_geo.specs.declared.reply.Reply.{Reply}
use Rattle.ssd_geo.specs.declared.tag.Tag.{Tag}
use Rattle.ssd_geo.specs.declared.trace.TraceCall.{TraceCall}
use Rattle.ssd_histories.specs.CallSteps.{CallStep, is_fault, steps_of}
use Rattle.ssd_histories.specs.CallsInOrder.{AreStepsOf, is_no_later, is_of_call}
use Rattle.ssd_histories.specs.History.{is_same_tag}
use Rattle.ssd_histories.specs.Lawful.{IsLawful}
use Rattle.ssd_histories.specs.Start.{Start}
use Rattle.serial_laws.proofs.Lists.{all_both}
use Rattle.serial_laws.proofs.LookLists.{by_kind, no_more_than_any}
use Rattle.serial_laws.proofs.MadeSteps.{faults_in}
use Rattle.calls_among_others.specs.ActorsCalls.{AreAsked, AreMadeAmong, IsAsked, first_tag, is_known_of, never_falls_for, next_tag}
use Rattle.calls_among_others.specs.CallsAmong.{DecideReply, ladders}
use Rattle.calls_among_others.specs.StepsAmong.{AreStepsAmong, HasCome}
use Rattle.calls_among_others.proofs.ActorsSteps.{calls_are_asked, order_came}
use Rattle.calls_among_others.proofs.AmongSteps.{IsOfOther, steps_are_all}
use Rattle.race_laws.specs.BegunCalls.{AreMadeThenBegun, BegunActorsAreSoFar}
use Rattle.race_laws.specs.Races.{IsBegunThere}
use Rattle.race_laws.proofs.PlacedCalls.{all_weaker, known_weaker}
use Rattle.race_laws.proofs.UnbegunActors.{none_open}
use Rattle.std.proofs.lemmas.Bool.{false_from_ne_true, or_left, or_right}
use Rattle.ssd_histories.proofs.SameTags.{same_parts, same_tag}
use Rattle.serial_laws.proofs.GrownPasts.{no_later_itself}

-- a test that passes at each entry of another actor passes at all entries of a past, if it did before others came, and after
-- the steps of calls whose entries pass
module _ (test : Entry → Bool) (actor : ℕ) (of_other : (entry : Entry) → entry.tag.actor ≢ actor → test entry ≡ true) where
  others_pass : (others before : List Entry) → All (IsOfOther actor) others → list_all test before ≡ true →
      list_all test (others ++ before) ≡ true
  others_pass [] before all pass = pass
  others_pass (entry ∷ others) before all pass =
      rw (of_other entry (All-head (IsOfOther actor) entry others all))
      (others_pass others before (All-tail (IsOfOther actor) entry others all) pass)

  came_passes : (before after : List Entry) → HasCome actor before after → list_all test before ≡ true →
      list_all test after ≡ true
  came_passes before after come pass =
      subst (λ (past : List Entry). list_all test past ≡ true) (sym come.after_is)
      (others_pass come.others before come.of_others pass)

  pub steps_pass : (tag : Tag) → tag.actor ≡ actor → ((entry : Entry) → entry.tag ≡ tag → test entry ≡ true) →
      (before after : List Entry) (steps : List CallStep) → AreStepsAmong tag before steps after → list_all test before ≡ true →
      list_all test after ≡ true
  steps_pass tag own of_own before after [] come pass =
      came_passes before after (subst (λ (a : ℕ). HasCome a before after) own come) pass
  steps_pass tag own of_own before after (step ∷ steps) made pass =
      let here : list_all test step.past ≡ true =
      came_passes before step.past (subst (λ (a : ℕ). HasCome a before step.past) own made.0) pass in
      steps_pass tag own of_own (step.entry ∷ step.past) after steps made.2 (rw (of_own step.entry made.1) here)

-- a past in which no number is greater than a tag's, and after the steps of its call
no_later_other : (tag : Tag) (entry : Entry) → entry.tag.actor ≢ tag.actor → is_no_later tag entry ≡ true
no_later_other tag entry other =
    ap (λ (b : Bool). not b || nat_le entry.tag.call tag.call)
    (false_from_ne_true (entry.tag.actor == tag.actor) (λ same. other (eqb-true entry.tag.actor tag.actor same)))

no_later_low : (tag : Tag) (entry : Entry) → entry.tag.call ≤ tag.call → is_no_later tag entry ≡ true
no_later_low tag entry low =
    or_right (not (entry.tag.actor == tag.actor)) (nat_le entry.tag.call tag.call) (grind (arith, nat_tests, low))

falls_steps : (tag : Tag) (before after : List Entry) (steps : List CallStep) → AreStepsAmong tag before steps after →
    list_all (is_no_later tag) before ≡ true → never_falls_for tag.actor before ≡ true → never_falls_for tag.actor after ≡ true
falls_steps tag before after [] come low order = order_came tag.actor before after come order
falls_steps tag before after (step ∷ steps) made low order =
    let here : list_all (is_no_later tag) step.past ≡ true =
    came_passes (is_no_later tag) tag.actor (no_later_other tag) before step.past made.0 low in
    let own : list_all (is_no_later step.entry.tag) step.past ≡ true =
    subst (λ (t : Tag). list_all (is_no_later t) step.past ≡ true) (sym made.1) here in
    let later : list_all (is_no_later tag) (step.entry ∷ step.past) ≡ true = rw (no_later_itself tag step.entry made.1) here in
    falls_steps tag (step.entry ∷ step.past) after steps made.2 later
    (ap (λ (b : Bool). (not (step.entry.tag.actor == tag.actor) || b) && never_falls_for tag.actor step.past) own
    ∙ ap (λ (b : Bool). b && never_falls_for tag.actor step.past)
    (or_right (not (step.entry.tag.actor == tag.actor)) true refl)
    ∙ order_came tag.actor before step.past made.0 order)

-- the tags of the calls that an actor made
abbrev HasTagBelow : ℕ → ℕ → TraceCall × Reply → Type 0
HasTagBelow actor number made = (made.0.tag.actor ≡ actor) × (made.0.tag.call < number)

module _ (start : Start) (contents : List (Tag × List ℕ)) (channels channel : ℕ) where
  tags_below : (tag : Tag) (number : ℕ) (calls : List (TraceCall × Reply)) (before after : List Entry) →
      number ≡ tag.call + length calls → AreMadeAmong start contents channels channel tag calls before after →
      All (HasTagBelow tag.actor number) calls
  tags_below tag number [] before after is are = All-nil (HasTagBelow tag.actor number)
  tags_below tag number (made ∷ calls) before after is are =
      let own : made.0.tag ≡ tag = are.1 in
      let same : made.0.tag.call ≡ tag.call = ap (λ (t : Tag). t.call) own in
      let many : length (made ∷ calls) ≡ suc (length calls) = refl in
      All-cons (HasTagBelow tag.actor number) made calls
      (ap (λ (t : Tag). t.actor) own, omega (arith, is, same, many))
      (tags_below (next_tag tag) number calls are.0 after (omega (arith, is, many)) are.3)

  -- no number is greater than that of a call that comes later
  made_low : (later : Tag) (tag : Tag) (calls : List (TraceCall × Reply)) (before after : List Entry) →
      tag.actor ≡ later.actor → tag.call + length calls ≤ later.call →
      AreMadeAmong start contents channels channel tag calls before after → list_all (is_no_later later) before ≡ true →
      list_all (is_no_later later) after ≡ true
  made_low later tag [] before after own low come pass =
      came_passes (is_no_later later) later.actor (no_later_other later) before after
      (subst (λ (a : ℕ). HasCome a before after) own come) pass
  made_low later tag (made ∷ calls) before after own low are pass =
      let many : length (made ∷ calls) ≡ suc (length calls) = refl in
      let here : tag.call ≤ later.call = omega (arith, low, many) in
      made_low later (next_tag tag) calls are.0 after own (omega (arith, low, many)) are.3
      (steps_pass (is_no_later later) later.actor (no_later_other later) tag own
      (λ entry same.
      let number : entry.tag.call ≡ tag.call = ap (λ (t : Tag). t.call) same in
      no_later_low later entry (omega (arith, here, number)))
      before are.0 are.2.steps are.2.are_steps pass)

module _ (start : Start) (contents : List (Tag × List ℕ)) (channels channel actor : ℕ) (answered : List (TraceCall × Reply))
    (call : TraceCall) (past : List Entry) (lawful : IsLawful start contents past)
    (made : AreMadeThenBegun start contents channels channel actor answered call past) where
  asked : AreAsked contents channels channel actor (record { start = start; past = made.between }) answered
  asked = calls_are_asked start contents channels channel actor answered made.between made.are_made

  own : call.tag.actor ≡ actor
  own = ap (λ (t : Tag). t.actor) made.is_next

  number : call.tag.call ≡ length answered
  number = ap (λ (t : Tag). t.call) made.is_next

  -- the calls before keep their steps, and the one that began has those that it made
  keeps : (tag : Tag) → tag.actor ≡ actor → (tag.call ≡ call.tag.call → ⊥) → steps_of tag past ≡ steps_of tag made.between
  keeps tag same differs =
      (steps_are_all call.tag made.between past made.begun.steps made.begun.are_steps).no_other_call tag (same ∙ sym own)
      (false_from_ne_true (is_same_tag tag call.tag) (λ one. differs (same_parts tag call.tag one).1))

  none_before : steps_of call.tag made.between ≡ []
  none_before = asked.none_later call.tag own (omega (arith, number))

  own_steps : steps_of call.tag past ≡ made.begun.steps
  own_steps =
      (steps_are_all call.tag made.between past made.begun.steps made.begun.are_steps).are_all
      ∙ ap (λ (steps : List CallStep). steps ++ made.begun.steps) none_before

  still_asked : (one : TraceCall × Reply) →
      IsAsked contents channels channel (record { start = start; past = made.between }) one →
      HasTagBelow actor (length answered) one → IsAsked contents channels channel (record { start = start; past = past }) one
  still_asked one is tag =
      let low : one.0.tag.call < length answered = tag.1 in
      let same : steps_of one.0.tag past ≡ steps_of one.0.tag made.between =
      keeps one.0.tag tag.0 (λ equal. absurd (omega (arith, equal, low, number))) in
      record {
        are_whole =
            subst (λ (steps : List CallStep). AreStepsOf (ladders start contents) start.base channels channel one.0.verb steps)
            (sym same) is.are_whole;
        decide =
            subst
            (λ (steps : List CallStep). DecideReply (ladders start contents) start.base channels channel one.0.verb steps one.1)
            (sym same) is.decide;
        one_fault = subst (λ (steps : List CallStep). faults_in steps ≤ 1) (sym same) is.one_fault;
      }

  begins : IsBegunThere contents channels channel (record { start = start; past = past }) call
  begins = record {
    begins = record {
      rest = made.begun.rest;
      begins =
          subst
          (λ (steps : List CallStep).
          AreStepsOf (ladders start contents) start.base channels channel call.verb (steps ++ made.begun.rest)) (sym own_steps)
          made.begun.of_verb;
    };
    one_fault =
        let none = no_more_than_any (by_kind is_fault) made.begun.steps made.begun.no_fault in
        subst (λ (steps : List CallStep). faults_in steps ≤ 1) (sym own_steps) (omega (arith, none));
    leaves = made.begun.leaves_all lawful (none_open call.tag made.between none_before);
  }

  known_own : (entry : Entry) → entry.tag ≡ call.tag →
      is_known_of actor (map (λ one. one.0) answered ++ call ∷ []) entry ≡ true
  known_own entry same =
      or_right (not (entry.tag.actor == actor)) (is_of_call (map (λ one. one.0) answered ++ call ∷ []) entry)
      (list_any-append (λ (other : TraceCall). is_same_tag other.tag entry.tag) (map (λ one. one.0) answered) (call ∷ [])
      ∙ or_right (is_of_call (map (λ one. one.0) answered) entry) (is_of_call (call ∷ []) entry)
      (or_left (is_same_tag call.tag entry.tag) false
      (subst (λ (t : Tag). is_same_tag call.tag t ≡ true) (sym same) (same_tag call.tag))))

  known_other : (entry : Entry) → entry.tag.actor ≢ actor →
      is_known_of actor (map (λ one. one.0) answered ++ call ∷ []) entry ≡ true
  known_other entry other =
      ap (λ (b : Bool). not b || is_of_call (map (λ one. one.0) answered ++ call ∷ []) entry)
      (false_from_ne_true (entry.tag.actor == actor) (λ same. other (eqb-true entry.tag.actor actor same)))

  known : list_all (is_known_of actor (map (λ one. one.0) answered ++ call ∷ [])) past ≡ true
  known =
      steps_pass (is_known_of actor (map (λ one. one.0) answered ++ call ∷ [])) actor known_other call.tag own known_own
      made.between past made.begun.steps made.begun.are_steps
      (all_weaker (is_known_of actor (map (λ one. one.0) answered))
      (is_known_of actor (map (λ one. one.0) answered ++ call ∷ []))
      (λ entry.
      known_weaker actor (map (λ one. one.0) answered) (map (λ one. one.0) answered ++ call ∷ []) entry
      (λ is.
      list_any-append (λ (other : TraceCall). is_same_tag other.tag entry.tag) (map (λ one. one.0) answered) (call ∷ [])
      ∙ or_left (is_of_call (map (λ one. one.0) answered) entry) (is_of_call (call ∷ []) entry) is))
      made.between asked.known)

  in_order : never_falls_for actor past ≡ true
  in_order =
      subst (λ (a : ℕ). never_falls_for a past ≡ true) own
      (falls_steps call.tag made.between past made.begun.steps made.begun.are_steps
      (made_low start contents channels channel call.tag (first_tag actor) answered [] made.between (sym own)
      (omega (arith, number)) made.are_made refl)
      (subst (λ (a : ℕ). never_falls_for a made.between ≡ true) (sym own) asked.in_order))

pub begun_actors : BegunActorsAreSoFar
begun_actors start contents channels channel actor answered call rest past lawful made = record {
  each =
      all_both (IsAsked contents channels channel (record { start = start; past = made.between }))
      (HasTagBelow actor (length answered)) (IsAsked contents channels channel (record { start = start; past = past }))
      (still_asked start contents channels channel actor answered call past lawful made) answered
      (asked start contents channels channel actor answered call past lawful made).each
      (tags_below start contents channels channel (first_tag actor) (length answered) answered [] made.between (omega arith)
      made.are_made);
  begun =
      All-cons (IsBegunThere contents channels channel (record { start = start; past = past })) call []
      (begins start contents channels channel actor answered call past lawful made)
      (All-nil (IsBegunThere contents channels channel (record { start = start; past = past })));
  known = known start contents channels channel actor answered call past lawful made;
  in_order = in_order start contents channels channel actor answered call past lawful made;
  none_later = λ tag same late.
      let at : call.tag.call ≡ length answered = number start contents channels channel actor answered call past lawful made in
      keeps start contents channels channel actor answered call past lawful made tag same
      (λ equal. absurd (omega (arith, equal, late, at)))
      ∙ (asked start contents channels channel actor answered call past lawful made).none_later tag same (omega (arith, late));
}
