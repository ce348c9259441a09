-- The calls of one actor, each made among those of others: the entries of the actor have the numbers of the calls so far, later
-- calls leave the steps of earlier ones, and numbers never fall.
use Rattle.std.proofs.Common.{ℕ, suc, ◌≡◌, ◌+◌, ◌<◌, ◌≤◌, ◌==◌, ◌&&◌, ◌||◌, not, Bool, true, false, List, [], ◌∷◌, ◌++◌, length, map, refl, sym, ap, subst, ◌∙◌, eqb-true, arith}
use Rattle.std.specs.Prelude.{All, nat_le}
use Rattle.std.specs.List.{list_all}
use Rattle.std.proofs.lemmas.Bool.{and_parts, false_from_ne_true as not_true, or_left, or_right}
use Rattle.std.proofs.lemmas.Bool.Decides.{nat_tests}
use Rattle.std.proofs.lemmas.List.Elements.{All-cons, All-head, All-nil, All-tail, All-weaker}
use Rattle.ssd_geo.specs.declared.entry.Entry.{Entry}
use Rattle.ssd_geo.specs.declared.reply.Reply.{Reply}
use Rattle.ssd_geo.specs.declared.tag.Tag.{Tag}
use Rattle.ssd_geo.specs.declared.trace.TraceCall.{TraceCall}
use Rattle.ssd_histories.specs.CallSteps.{CallStep, steps_of}
use Rattle.ssd_histories.specs.CallsInOrder.{AreStepsOf, is_no_later, is_of_call, never_fall}
use Rattle.ssd_histories.specs.History.{is_same_tag}
use Rattle.ssd_histories.specs.Start.{Start}
use Rattle.serial_laws.proofs.MadeSteps.{faults_in, none_more}
use Rattle.calls_among_others.specs.ActorsCalls.{AreMadeAmong, CallsAmongAreAsked, EachActorIsKnown, IsAsked, NoActorFalls, first_tag, is_known_of, never_falls_for, next_tag}
use Rattle.calls_among_others.specs.CallsAmong.{DecideReply, IsCallAmong, ladders}
use Rattle.calls_among_others.specs.StepsAmong.{AreStepsAmong, HasCome}
use Rattle.calls_among_others.proofs.AmongSteps.{IsOfOther, came_none, steps_are_all}
use Rattle.shared_lemmas.proofs.Tests.{same_number}
use Rattle.ssd_histories.proofs.SameTags.{same_parts, same_tag}

-- an entry, if it is an actor's, has a number below this
abbrev IsUnder : ℕ → ℕ → Entry → Type 0
IsUnder actor number entry = entry.tag.actor ≡ actor → entry.tag.call < number

-- what holds of each entry that is another's, and of those of a call, holds after the call's steps
module _ (P : Entry → Type 0) (actor : ℕ) (other_has : (entry : Entry) → IsOfOther actor entry → P entry) where
  over_others : (others before : List Entry) → All (IsOfOther actor) others → All P before → All P (others ++ before)
  over_others [] before all has = has
  over_others (entry ∷ others) before all has =
      All-cons P entry (others ++ before) (other_has entry (All-head (IsOfOther actor) entry others all))
      (over_others others before (All-tail (IsOfOther actor) entry others all) has)

  over_came : (before after : List Entry) → HasCome actor before after → All P before → All P after
  over_came before after came has =
      subst (All P) (sym came.after_is) (over_others came.others before came.of_others has)

  over_steps : (tag : Tag) → tag.actor ≡ actor → ((entry : Entry) → entry.tag ≡ tag → P entry) → (before after : List Entry)
      (steps : List CallStep) → AreStepsAmong tag before steps after → All P before → All P after
  over_steps tag own own_has before after [] came has =
      over_came before after (subst (λ (a : ℕ). HasCome a before after) own came) has
  over_steps tag own own_has before after (step ∷ steps) made has =
      over_steps tag own own_has (step.entry ∷ step.past) after steps made.2
      (All-cons P step.entry step.past (own_has step.entry made.1)
      (over_came before step.past (subst (λ (a : ℕ). HasCome a before step.past) own made.0) has))

-- the numbers of the entries after a call's steps
under_more : (actor number : ℕ) (past : List Entry) → All (IsUnder actor number) past → All (IsUnder actor (suc number)) past
under_more actor number [] all = All-nil (IsUnder actor (suc number))
under_more actor number (entry ∷ past) all =
    let here : IsUnder actor number entry = All-head (IsUnder actor number) entry past all in
    All-cons (IsUnder actor (suc number)) entry past
    (λ same. let low : entry.tag.call < number = here same in omega (arith, low))
    (under_more actor number past (All-tail (IsUnder actor number) entry past all))

other_under : (actor number : ℕ) (entry : Entry) → IsOfOther actor entry → IsUnder actor number entry
other_under actor number entry other = λ same. absurd (other same)

own_under : (tag : Tag) (entry : Entry) → entry.tag ≡ tag → IsUnder tag.actor (suc tag.call) entry
own_under tag entry own = λ _. let same : entry.tag.call ≡ tag.call = ap (λ (t : Tag). t.call) own in omega (arith, same)

under_steps : (tag : Tag) (before after : List Entry) (steps : List CallStep) → AreStepsAmong tag before steps after →
    All (IsUnder tag.actor tag.call) before → All (IsUnder tag.actor (suc tag.call)) after
under_steps tag before after steps made under =
    over_steps (IsUnder tag.actor (suc tag.call)) tag.actor (other_under tag.actor (suc tag.call)) tag refl (own_under tag)
    before after steps made (under_more tag.actor tag.call before under)

-- a call whose number is no lower has no step there
later_differs : (actor number : ℕ) (tag : Tag) (entry : Entry) → tag.actor ≡ actor → number ≤ tag.call →
    IsUnder actor number entry → is_same_tag tag entry.tag ≡ false
later_differs actor number tag entry own late under =
    not_true (is_same_tag tag entry.tag) (λ same.
    let parts = same_parts tag entry.tag same in
    let low : entry.tag.call < number = under (sym parts.0 ∙ own) in
    absurd (omega (arith, low, late, parts.1)))

none_under : (actor number : ℕ) (tag : Tag) (past : List Entry) → tag.actor ≡ actor → number ≤ tag.call →
    All (IsUnder actor number) past → steps_of tag past ≡ []
none_under actor number tag [] own late under = refl
none_under actor number tag (entry ∷ past) own late under =
    none_more tag entry past (later_differs actor number tag entry own late
    (All-head (IsUnder actor number) entry past under))
    ∙ none_under actor number tag past own late (All-tail (IsUnder actor number) entry past under)

-- numbers never fall
pub order_others : (actor : ℕ) (others before : List Entry) → All (IsOfOther actor) others → never_falls_for actor before ≡ true →
    never_falls_for actor (others ++ before) ≡ true
order_others actor [] before all order = order
order_others actor (entry ∷ others) before all order =
    let other : (entry.tag.actor == actor) ≡ false =
    not_true (entry.tag.actor == actor)
    (λ same. All-head (IsOfOther actor) entry others all (eqb-true entry.tag.actor actor same)) in
    ap (λ (b : Bool). (not b || list_all (is_no_later entry.tag) (others ++ before))
    && never_falls_for actor (others ++ before)) other
    ∙ order_others actor others before (All-tail (IsOfOther actor) entry others all) order

pub order_came : (actor : ℕ) (before after : List Entry) → HasCome actor before after → never_falls_for actor before ≡ true →
    never_falls_for actor after ≡ true
order_came actor before after came order =
    subst (λ (past : List Entry). never_falls_for actor past ≡ true) (sym came.after_is)
    (order_others actor came.others before came.of_others order)

no_later_than : (tag : Tag) (entry : Entry) → IsUnder tag.actor (suc tag.call) entry → is_no_later tag entry ≡ true
no_later_than tag entry under = by_test (entry.tag.actor == tag.actor) refl
  where
    by_test : (b : Bool) → (entry.tag.actor == tag.actor) ≡ b → (not b || nat_le entry.tag.call tag.call) ≡ true
    by_test true same =
        let low : entry.tag.call < suc tag.call = under (eqb-true entry.tag.actor tag.actor same) in
        grind (arith, nat_tests, low)
    by_test false other = refl

all_no_later : (tag : Tag) (past : List Entry) → All (IsUnder tag.actor (suc tag.call)) past →
    list_all (is_no_later tag) past ≡ true
all_no_later tag [] under = refl
all_no_later tag (entry ∷ past) under =
    rw (no_later_than tag entry (All-head (IsUnder tag.actor (suc tag.call)) entry past under))
    (all_no_later tag past (All-tail (IsUnder tag.actor (suc tag.call)) entry past under))

order_steps : (tag : Tag) (before after : List Entry) (steps : List CallStep) → AreStepsAmong tag before steps after →
    All (IsUnder tag.actor (suc tag.call)) before → never_falls_for tag.actor before ≡ true →
    never_falls_for tag.actor after ≡ true
order_steps tag before after [] came under order = order_came tag.actor before after came order
order_steps tag before after (step ∷ steps) made under order =
    let here : All (IsUnder tag.actor (suc tag.call)) step.past =
    over_came (IsUnder tag.actor (suc tag.call)) tag.actor (other_under tag.actor (suc tag.call)) before step.past made.0
    under in
    let falls : list_all (is_no_later step.entry.tag) step.past ≡ true =
    subst (λ (t : Tag). list_all (is_no_later t) step.past ≡ true) (sym made.1) (all_no_later tag step.past here) in
    order_steps tag (step.entry ∷ step.past) after steps made.2
    (All-cons (IsUnder tag.actor (suc tag.call)) step.entry step.past (own_under tag step.entry made.1) here)
    (ap (λ (b : Bool). (not (step.entry.tag.actor == tag.actor) || b) && never_falls_for tag.actor step.past) falls
    ∙ ap (λ (b : Bool). b && never_falls_for tag.actor step.past)
    (or_right (not (step.entry.tag.actor == tag.actor)) true refl)
    ∙ order_came tag.actor before step.past made.0 order)

-- each entry is known
abbrev IsKnown : ℕ → List TraceCall → Entry → Type 0
IsKnown actor calls entry = is_known_of actor calls entry ≡ true

other_known : (actor : ℕ) (calls : List TraceCall) (entry : Entry) → IsOfOther actor entry → IsKnown actor calls entry
other_known actor calls entry other =
    ap (λ (b : Bool). not b || is_of_call calls entry)
    (not_true (entry.tag.actor == actor) (λ same. other (eqb-true entry.tag.actor actor same)))

all_test : (test : Entry → Bool) (past : List Entry) → All (λ entry. test entry ≡ true) past → list_all test past ≡ true
all_test test [] all = refl
all_test test (entry ∷ past) all =
    rw (All-head (λ (e : Entry). test e ≡ true) entry past all)
    (all_test test past (All-tail (λ (e : Entry). test e ≡ true) entry past all))

-- the entries of each call are among those of a list of calls
abbrev AreIn : List TraceCall → TraceCall × Reply → Type 0
AreIn all made = (entry : Entry) → entry.tag ≡ made.0.tag → is_of_call all entry ≡ true

are_in : (calls : List (TraceCall × Reply)) → All (AreIn (map (λ made. made.0) calls)) calls
are_in [] = All-nil (AreIn [])
are_in (made ∷ calls) =
    let all : List TraceCall = map (λ made. made.0) calls in
    All-cons (AreIn (made.0 ∷ all)) made calls
    (λ entry own.
    or_left (is_same_tag made.0.tag entry.tag) (is_of_call all entry)
    (subst (λ (t : Tag). is_same_tag made.0.tag t ≡ true) (sym own) (same_tag made.0.tag)))
    (All-weaker (AreIn all) (AreIn (made.0 ∷ all))
    (λ other there entry own. or_right (is_same_tag made.0.tag entry.tag) (is_of_call all entry) (there entry own)) calls
    (are_in calls))

-- the calls of one actor
module _ (start : Start) (contents : List (Tag × List ℕ)) (channels channel : ℕ) where
  abbrev AreOfVerb : TraceCall × Reply → List CallStep → Type 0
  AreOfVerb made steps = AreStepsOf (ladders start contents) start.base channels channel made.0.verb steps

  abbrev Decide : TraceCall × Reply → List CallStep → Type 0
  Decide made steps = DecideReply (ladders start contents) start.base channels channel made.0.verb steps made.1

  abbrev IsAskedIn : List Entry → TraceCall × Reply → Type 0
  IsAskedIn past = IsAsked contents channels channel (record { start = start; past = past })

  -- later calls leave the steps of an earlier one
  keeps_earlier : (tag other : Tag) (calls : List (TraceCall × Reply)) (before after : List Entry) →
      other.actor ≡ tag.actor → other.call < tag.call → AreMadeAmong start contents channels channel tag calls before after →
      steps_of other after ≡ steps_of other before
  keeps_earlier tag other [] before after same low came =
      came_none other before after (subst (λ (actor : ℕ). HasCome actor before after) (sym same) came)
  keeps_earlier tag other (made ∷ calls) before after same low are =
      let differs : is_same_tag other tag ≡ false =
      not_true (is_same_tag other tag) (λ one. let parts = same_parts other tag one in absurd (omega (arith, low, parts.1))) in
      keeps_earlier (next_tag tag) other calls are.0 after same (omega (arith, low)) are.3
      ∙ (steps_are_all tag before are.0 are.2.steps are.2.are_steps).no_other_call other same differs

  asked : (made : TraceCall × Reply) (after : List Entry) (steps : List CallStep) → steps_of made.0.tag after ≡ steps →
      AreOfVerb made steps → Decide made steps → faults_in steps ≤ 1 → IsAskedIn after made
  asked made after steps here of_verb decide few = record {
    are_whole = subst (AreOfVerb made) (sym here) of_verb;
    decide = subst (Decide made) (sym here) decide;
    one_fault = subst (λ (xs : List CallStep). faults_in xs ≤ 1) (sym here) few;
  }

  -- each is as calls in order ask, over the past at the end
  each_asked : (tag : Tag) (calls : List (TraceCall × Reply)) (before after : List Entry) →
      All (IsUnder tag.actor tag.call) before → AreMadeAmong start contents channels channel tag calls before after →
      All (IsAskedIn after) calls
  each_asked tag [] before after under came = All-nil (IsAskedIn after)
  each_asked tag (made ∷ calls) before after under are =
      let its : IsCallAmong start contents channels channel tag made.0.verb before are.0 made.1 = are.2 in
      let steps_are : steps_of tag after ≡ its.steps =
      keeps_earlier (next_tag tag) tag calls are.0 after refl (omega arith) are.3
      ∙ (steps_are_all tag before are.0 its.steps its.are_steps).are_all
      ∙ ap (λ (xs : List CallStep). xs ++ its.steps)
      (none_under tag.actor tag.call tag before refl (omega arith) under) in
      All-cons (IsAskedIn after) made calls
      (asked made after its.steps (ap (λ (t : Tag). steps_of t after) are.1 ∙ steps_are) its.of_verb its.decide its.one_fault)
      (each_asked (next_tag tag) calls are.0 after (under_steps tag before are.0 its.steps its.are_steps under) are.3)

  -- the numbers at the end
  under_at_end : (tag : Tag) (calls : List (TraceCall × Reply)) (before after : List Entry) (number : ℕ) →
      number ≡ tag.call + length calls → All (IsUnder tag.actor tag.call) before →
      AreMadeAmong start contents channels channel tag calls before after → All (IsUnder tag.actor number) after
  under_at_end tag [] before after number is under came =
      let last : tag.call ≡ number = omega (arith, is) in
      subst (λ (n : ℕ). All (IsUnder tag.actor n) after) last
      (over_came (IsUnder tag.actor tag.call) tag.actor (other_under tag.actor tag.call) before after came under)
  under_at_end tag (made ∷ calls) before after number is under are =
      under_at_end (next_tag tag) calls are.0 after number (omega (arith, is))
      (under_steps tag before are.0 are.2.steps are.2.are_steps under) are.3

  order_at_end : (tag : Tag) (calls : List (TraceCall × Reply)) (before after : List Entry) →
      All (IsUnder tag.actor tag.call) before → never_falls_for tag.actor before ≡ true →
      AreMadeAmong start contents channels channel tag calls before after → never_falls_for tag.actor after ≡ true
  order_at_end tag [] before after under order came = order_came tag.actor before after came order
  order_at_end tag (made ∷ calls) before after under order are =
      order_at_end (next_tag tag) calls are.0 after (under_steps tag before are.0 are.2.steps are.2.are_steps under)
      (order_steps tag before are.0 are.2.steps are.2.are_steps (under_more tag.actor tag.call before under) order) are.3

  known_at_end : (all : List TraceCall) (tag : Tag) (calls : List (TraceCall × Reply)) (before after : List Entry) →
      All (AreIn all) calls → All (IsKnown tag.actor all) before →
      AreMadeAmong start contents channels channel tag calls before after → All (IsKnown tag.actor all) after
  known_at_end all tag [] before after in_all known came =
      over_came (IsKnown tag.actor all) tag.actor (other_known tag.actor all) before after came known
  known_at_end all tag (made ∷ calls) before after in_all known are =
      known_at_end all (next_tag tag) calls are.0 after (All-tail (AreIn all) made calls in_all)
      (over_steps (IsKnown tag.actor all) tag.actor (other_known tag.actor all) tag refl
      (λ entry own.
      or_right (not (entry.tag.actor == tag.actor)) (is_of_call all entry)
      (All-head (AreIn all) made calls in_all entry (own ∙ sym are.1)))
      before are.0 are.2.steps are.2.are_steps known) are.3

pub calls_are_asked : CallsAmongAreAsked
calls_are_asked start contents channels channel actor calls past are =
    let none_before : All (IsUnder actor 0) [] = All-nil (IsUnder actor 0) in
    let all : List TraceCall = map (λ made. made.0) calls in
    record {
      each = each_asked start contents channels channel (first_tag actor) calls [] past none_before are;
      known =
          all_test (is_known_of actor all) past
          (known_at_end start contents channels channel all (first_tag actor) calls [] past (are_in calls)
          (All-nil (IsKnown actor all)) are);
      in_order = order_at_end start contents channels channel (first_tag actor) calls [] past none_before refl are;
      none_later = λ tag own late.
          none_under actor (length calls) tag past own late
          (under_at_end start contents channels channel (first_tag actor) calls [] past (length calls) (omega arith) none_before
          are);
    }

-- all actors
no_actor_falls : (past : List Entry) → ((actor : ℕ) → never_falls_for actor past ≡ true) → never_fall past ≡ true
no_actor_falls [] each = refl
no_actor_falls (entry ∷ past) each =
    let own = and_parts (not (entry.tag.actor == entry.tag.actor) || list_all (is_no_later entry.tag) past)
    (never_falls_for entry.tag.actor past) (each entry.tag.actor) in
    let here : list_all (is_no_later entry.tag) past ≡ true =
    ap (λ (b : Bool). not b || list_all (is_no_later entry.tag) past) (sym (same_number entry.tag.actor)) ∙ own.0 in
    rw here (no_actor_falls past (λ actor.
    (and_parts (not (entry.tag.actor == actor) || list_all (is_no_later entry.tag) past) (never_falls_for actor past)
    (each actor)).1))

pub none_falls : NoActorFalls
none_falls past each = no_actor_falls past each

all_known : (calls : List TraceCall) (past : List Entry) → ((actor : ℕ) → list_all (is_known_of actor calls) past ≡ true) →
    list_all (is_of_call calls) past ≡ true
all_known calls [] each = refl
all_known calls (entry ∷ past) each =
    let own = and_parts (is_known_of entry.tag.actor calls entry) (list_all (is_known_of entry.tag.actor calls) past)
    (each entry.tag.actor) in
    let here : is_of_call calls entry ≡ true =
    ap (λ (b : Bool). not b || is_of_call calls entry) (sym (same_number entry.tag.actor)) ∙ own.0 in
    rw here (all_known calls past (λ actor.
    (and_parts (is_known_of actor calls entry) (list_all (is_known_of actor calls) past) (each actor)).1))

pub each_known : EachActorIsKnown
each_known calls past each = all_known calls past each
