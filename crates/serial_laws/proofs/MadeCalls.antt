-- A call that makes all its entries on one channel: where these have the form of its verb it is whole, and where they begin
-- that form it is begun.
use Rattle.std.proofs.Common.{ℕ, ◌≡◌, ◌≢◌, ◌≤◌, Bool, true, false, cond, List, [], ◌∷◌, ◌++◌, length, Some, refl, sym, ap, subst, ◌∙◌, append_assoc, append-nil, eqb-true, arith}
use Rattle.std.proofs.lemmas.Bool.{and_parts}
use Rattle.std.specs.Prelude.{◌==◌, All, IsTrue, slice_get, slice_set, sum_by}
use Rattle.std.specs.List.{enumerate_from, list_all}
use Rattle.std.proofs.lemmas.List.{append_cancel_right}
use Rattle.std.proofs.lemmas.List.Elements.{All-weaker}
use Rattle.std.proofs.lemmas.List.Folds.{list_all-append}
use Rattle.std.proofs.lemmas.List.Sums.{sum_by-append}
use Rattle.ssd_histories.specs.CallSteps.{CallStep, is_fault, steps_of}
use Rattle.ssd_histories.specs.CallsInOrder.{AreCallSteps, ChannelRun, IsBegun, IsBegunOn, IsWhole, OnOwnChannel, TookAtMost, count_of_faults, hints_taken, is_left, steps_on}
use Rattle.ssd_histories.specs.History.{is_same_tag}
use Rattle.ssd_histories.specs.SerialCalls.{AreStepsFrom}
use Rattle.ssd_histories.specs.SerialHistory.{OnChannel, SerialState}
use Rattle.ssd_histories.specs.SerialStop.{IsCut}
use Rattle.ssd_histories.specs.Start.{Start}
use Rattle.ssd_geo.specs.declared.entry.Entry.{Entry}
use Rattle.ssd_geo.specs.declared.tag.Tag.{Tag}
use Rattle.ssd_geo.specs.declared.trace.TraceCall.{TraceCall}
use Rattle.serial_laws.proofs.GrownPasts.{HasMoreSteps, steps_begin}
use Rattle.serial_laws.proofs.Lists.{Pairwise, all_set, pairs_as_many, pairs_set, sum_of_none, sum_set}
use Rattle.serial_laws.proofs.MadeSteps.{IsGrownPast, faults_in, grown_itself, made_steps, steps_grow}
use Rattle.shared_lemmas.proofs.Lists.{all_at}
use Rattle.shared_lemmas.proofs.Tests.{same_number}

-- a channel with more entries of a call
pub record IsGrownRun (tag : Tag) (before after : ChannelRun) : Type 0 where
  pub same_start : after.start ≡ before.start
  pub grown : IsGrownPast tag before.past after.past

pub run_itself : (tag : Tag) (run : ChannelRun) → IsGrownRun tag run run
run_itself tag run = record { same_start = refl; grown = grown_itself tag run.past }

-- no channel has a step of a call
abbrev pub HasNoSteps : Tag → List ChannelRun → Type 0
HasNoSteps tag runs = All (λ run. steps_on tag run ≡ []) runs

-- steps of a form that a call made from one past to another
pub record IsFormMade (form : List CallStep → Type 0) (tag : Tag) (before after : List Entry) : Type 0 where
  pub steps : List CallStep
  pub are_steps : AreStepsFrom tag before steps after
  pub has_form : form steps
  pub one_fault : faults_in steps ≤ 1

-- a call made entries on one channel, and with the rest its steps there have a form
pub record IsChannelMade (form : Start → List CallStep → Type 0) (channel : ℕ) (tag : Tag) (rest : List CallStep)
    (before after : List ChannelRun) : Type 0 where
  pub run : ChannelRun
  pub past : List Entry
  pub is_there : slice_get before channel ≡ Some run
  pub grown : IsGrownPast tag run.past past
  pub has_form : form run.start (steps_of tag past ++ rest)
  pub one_fault : faults_in (steps_of tag past) ≤ 1
  pub after_is : after ≡ slice_set before channel (record { start = run.start; past = past })

-- a call that was cut before its end
pub record IsChannelCut (form : Start → List CallStep → Type 0) (channel : ℕ) (tag : Tag)
    (before after : List ChannelRun) : Type 0 where
  pub rest : List CallStep
  pub made : IsChannelMade form channel tag rest before after

-- the steps in a past are those that were made since the call had none
pub own_steps : (tag : Tag) (before after : List Entry) (steps : List CallStep) → steps_of tag before ≡ [] →
    AreStepsFrom tag before steps after → steps_of tag after ≡ steps
own_steps tag before after steps none made =
    made_steps tag before after steps made ∙ ap (λ (older : List CallStep). older ++ steps) none

module _ (form : Start → List CallStep → Type 0) (fact : ChannelRun → List Entry → List Entry → Type 0) (tag : Tag)
    (channel : ℕ)
    (is_made : (run : ChannelRun) (before after : List Entry) → fact run before after →
    IsFormMade (form run.start) tag before after) where
  -- a call that leads its channel from one past to another
  pub channel_is_made : (before after : SerialState) → HasNoSteps tag before.channels → OnChannel channel fact before after →
      IsChannelMade form channel tag [] before.channels after.channels
  channel_is_made before after none on =
      let run : ChannelRun = on.run in
      let made : IsFormMade (form run.start) tag run.past on.past = is_made run run.past on.past on.holds in
      let are : steps_of tag on.past ≡ made.steps =
      own_steps tag run.past on.past made.steps
      (all_at (λ (named : ChannelRun). steps_on tag named ≡ []) before.channels channel run none on.is_there)
      made.are_steps in
      record {
        run = run;
        past = on.past;
        is_there = on.is_there;
        grown = steps_grow tag run.past on.past made.steps made.are_steps;
        has_form = subst (form run.start) (sym (append-nil (steps_of tag on.past) ∙ are)) made.has_form;
        one_fault = subst (λ (steps : List CallStep). faults_in steps ≤ 1) (sym are) made.one_fault;
        after_is = ap (λ (state : SerialState). state.channels) on.after_is;
      }

  -- so does one that was cut before its end
  cut_grows : (before past made missing : List Entry) → past ≡ made ++ before → IsGrownPast tag before (missing ++ past) →
      IsGrownPast tag before past
  cut_grows before past made missing begins whole =
      let all : missing ++ made ≡ whole.made =
      append_cancel_right (missing ++ made) whole.made before
      (append_assoc missing made before ∙ ap (λ (older : List Entry). missing ++ older) (sym begins) ∙ whole.after_is) in
      let own : list_all (λ entry. is_same_tag tag entry.tag) (missing ++ made) ≡ true =
      subst (λ (entries : List Entry). list_all (λ entry. is_same_tag tag entry.tag) entries ≡ true) (sym all) whole.own in
      record {
        made = made;
        after_is = begins;
        own =
            (and_parts (list_all (λ (entry : Entry). is_same_tag tag entry.tag) missing)
            (list_all (λ (entry : Entry). is_same_tag tag entry.tag) made)
            (sym (list_all-append (λ (entry : Entry). is_same_tag tag entry.tag) missing made) ∙ own)).1;
      }

  pub channel_is_cut : (entries : ℕ) (before after : SerialState) → HasNoSteps tag before.channels →
      OnChannel channel (λ run. IsCut (fact run) run.start.limit entries) before after → IsChannelCut form channel tag before.channels after.channels
  channel_is_cut entries before after none on =
      let run : ChannelRun = on.run in
      let cut : IsCut (fact run) run.start.limit entries run.past on.past = on.holds in
      let missing : List Entry = cut.later ++ cut.next ∷ [] in
      let whole : List Entry = missing ++ on.past in
      let is_whole : fact run run.past whole = subst (fact run run.past) (sym (append_assoc cut.later (cut.next ∷ []) on.past)) cut.whole in
      let made : IsFormMade (form run.start) tag run.past whole = is_made run run.past whole is_whole in
      let are : steps_of tag whole ≡ made.steps =
      own_steps tag run.past whole made.steps
      (all_at (λ (named : ChannelRun). steps_on tag named ≡ []) before.channels channel run none on.is_there)
      made.are_steps in
      let begun : HasMoreSteps tag on.past whole = steps_begin tag missing on.past in
      let joined : steps_of tag on.past ++ begun.rest ≡ made.steps = sym begun.are ∙ are in
      let sums = sum_by-append (λ (step : CallStep). cond (is_fault step.entry.kind) 1 0) (steps_of tag on.past) begun.rest in
      let few : faults_in (steps_of tag on.past ++ begun.rest) ≤ 1 =
      subst (λ (steps : List CallStep). faults_in steps ≤ 1) (sym joined) made.one_fault in
      record {
        rest = begun.rest;
        made = record {
          run = run;
          past = on.past;
          is_there = on.is_there;
          grown = cut_grows run.past on.past cut.made missing cut.begins
              (steps_grow tag run.past whole made.steps made.are_steps);
          has_form = subst (form run.start) (sym joined) made.has_form;
          one_fault = omega (arith, sums, few);
          after_is = ap (λ (state : SerialState). state.channels) on.after_is;
        };
      }

-- a fact of the steps on a call's own channel, and none elsewhere
on_own : (channel : ℕ) (fact : Type 0) (steps : List CallStep) → fact → OnOwnChannel (channel == channel) fact steps
on_own channel fact steps holds = by_test (channel == channel) (same_number channel)
  where
    by_test : (b : Bool) → b ≡ true → OnOwnChannel b fact steps
    by_test true e = holds
    by_test false e = absurd (grind arith)

elsewhere : (channel i : ℕ) (fact : Type 0) (steps : List CallStep) → i ≢ channel → steps ≡ [] →
    OnOwnChannel (channel == i) fact steps
elsewhere channel i fact steps other none = by_test (channel == i) (λ e. other (sym (eqb-true channel i e)))
  where
    by_test : (b : Bool) → (b ≡ true → ⊥) → OnOwnChannel b fact steps
    by_test true never = absurd (never refl)
    by_test false never = none

module _ (contents : List (Tag × List ℕ)) (channels channel : ℕ) (call : TraceCall) (form : Start → List CallStep → Type 0)
    (of_verb : (i : ℕ) (run : ChannelRun) (steps : List CallStep) → OnOwnChannel (channel == i) (form run.start steps) steps →
    AreCallSteps contents channels call (i, run) steps)
    (took : (taken : ℕ) → TookAtMost call.verb taken)
    (before after : List ChannelRun) (many : length before ≡ channels) (none : HasNoSteps call.tag before)
    (rest : List CallStep) (made : IsChannelMade form channel call.tag rest before after) where
  pub runs_grow : Pairwise (IsGrownRun call.tag) before after
  runs_grow =
      subst (Pairwise (IsGrownRun call.tag) before) (sym made.after_is)
      (pairs_set (IsGrownRun call.tag) (run_itself call.tag) before channel made.run
      (record { start = made.run.start; past = made.past }) made.is_there
      (record { same_start = refl; grown = made.grown }))

  as_many : length after ≡ channels
  as_many = pairs_as_many (IsGrownRun call.tag) before after runs_grow ∙ many

  has_none : (i : ℕ) (run : ChannelRun) → slice_get before i ≡ Some run → steps_on call.tag run ≡ []
  has_none i run is = all_at (λ (named : ChannelRun). steps_on call.tag named ≡ []) before i run none is

  few_faults : count_of_faults after call.tag ≤ 1
  few_faults =
      let faults : ChannelRun → ℕ = λ run. faults_in (steps_on call.tag run) in
      let set : sum_by faults after ≡ sum_by faults
      (slice_set before channel (record { start = made.run.start; past = made.past })) = ap (sum_by faults) made.after_is in
      let sums = sum_set faults before channel made.run (record { start = made.run.start; past = made.past }) made.is_there in
      let no_faults =
      sum_of_none faults before
      (All-weaker (λ (run : ChannelRun). steps_on call.tag run ≡ [])
      (λ (run : ChannelRun). faults_in (steps_on call.tag run) ≡ 0)
      (λ run no_step. ap faults_in no_step) before none) in
      let few = made.one_fault in
      omega (arith, set, sums, no_faults, few)

  -- the call is whole where nothing is left to make
  pub channel_is_whole : rest ≡ [] → IsWhole contents after call
  channel_is_whole nothing = record {
    on_channels =
        subst (λ n. All (λ item. AreCallSteps contents n call item (steps_on call.tag item.1)) (enumerate_from 0 after))
        (sym as_many)
        (subst (λ runs. All (λ item. AreCallSteps contents channels call item (steps_on call.tag item.1))
        (enumerate_from 0 runs)) (sym made.after_is)
        (all_set (λ item. AreCallSteps contents channels call item (steps_on call.tag item.1)) before channel
        (record { start = made.run.start; past = made.past })
        (λ i run other is.
        of_verb i run (steps_on call.tag run)
        (elsewhere channel i (form run.start (steps_on call.tag run)) (steps_on call.tag run) other (has_none i run is)))
        (of_verb channel (record { start = made.run.start; past = made.past }) (steps_of call.tag made.past)
        (on_own channel (form made.run.start (steps_of call.tag made.past)) (steps_of call.tag made.past)
        (subst (form made.run.start)
        (ap (λ (steps : List CallStep). steps_of call.tag made.past ++ steps) nothing
        ∙ append-nil (steps_of call.tag made.past)) made.has_form)))));
    few = took (hints_taken after call.tag);
    one_fault = few_faults;
  }

  -- it is begun where each of its looks has its leave
  pub channel_is_begun : IsTrue (list_all (is_left call.tag) after) → IsBegun contents after call
  channel_is_begun left = record {
    on_channels =
        subst (λ n. All (IsBegunOn contents n call) (enumerate_from 0 after)) (sym as_many)
        (subst (λ runs. All (IsBegunOn contents channels call) (enumerate_from 0 runs)) (sym made.after_is)
        (all_set (IsBegunOn contents channels call) before channel (record { start = made.run.start; past = made.past })
        (λ i run other is. record {
          rest = [];
          begins =
              of_verb i run (steps_on call.tag run ++ [])
              (elsewhere channel i (form run.start (steps_on call.tag run ++ [])) (steps_on call.tag run ++ []) other
              (append-nil (steps_on call.tag run) ∙ has_none i run is));
        })
        (record {
          rest = rest;
          begins =
              of_verb channel (record { start = made.run.start; past = made.past }) (steps_of call.tag made.past ++ rest)
              (on_own channel (form made.run.start (steps_of call.tag made.past ++ rest))
              (steps_of call.tag made.past ++ rest) made.has_form);
        })));
    few = took (hints_taken after call.tag);
    one_fault = few_faults;
    are_left = left;
  }
