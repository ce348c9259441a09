-- Calls that come after those that were served, and have no entry and no reply. An actor's first such call counts as begun,
-- since some steps would make it whole; its later ones weren't made.
use Rattle.std.proofs.Common.{ℕ, ◌≡◌, ◌≤◌, ◌<◌, ◌/◌, ◌%◌, Bool, true, false, cond, List, [], ◌∷◌, ◌++◌, length, Option, Some, None, refl, sym, ap, subst, ◌∙◌, inl, arith}
use Rattle.std.specs.Prelude.{◌==◌, All, IsTrue, nat_lt, not, slice_index_or}
use Rattle.std.specs.List.{list_all}
use Rattle.std.proofs.lemmas.Bool.{and_parts, ltb-true, false_from_ne_true}
use Rattle.std.proofs.lemmas.List.Elements.{All-head, All-nil, All-tail, All-weaker}
use Rattle.std.proofs.lemmas.List.Folds.{list_all-append}
use Rattle.std.proofs.lemmas.List.Sums.{list_all-from_AllPass}
use Rattle.std.proofs.lemmas.Option.{slice_get-get_or}
use Rattle.ssd_histories.specs.CallSteps.{CallStep}
use Rattle.ssd_histories.specs.CallsInOrder.{AreCallSteps, AreStepsOf, ChannelRun, IsAsAnswered, IsBegun, IsBegunOn, IsNotMade, IsSomeRefresh, IsWhole, OnOwnChannel, TookAtMost, answered_by, count_of_faults, hints_taken, is_age_of, is_left, is_of_call, is_trim_of, ladder_in, looks_in_steps, reply_to, steps_on}
use Rattle.ssd_histories.specs.Copies.{IsRead, IsRefresh, is_lone_look}
use Rattle.ssd_histories.specs.History.{is_same_tag, look_made, looks_after, open_looks, with_look}
use Rattle.ssd_geo.specs.Ladder.{LadderState}
use Rattle.ssd_histories.specs.OpenLooks.{began_at, without_look}
use Rattle.ssd_histories.specs.Rounds.{IsCollect, IsLeftRound, IsVictimCopy, IsWrite, IsWritePart, is_one}
use Rattle.ssd_geo.specs.declared.base.ChannelBase.{ChannelBase}
use Rattle.ssd_geo.specs.declared.entry.Entry.{Entry}
use Rattle.ssd_geo.specs.declared.kind.Kind.{Kind}
use Rattle.ssd_geo.specs.declared.look.Look.{Look}
use Rattle.ssd_geo.specs.declared.reply.Reply.{Reply}
use Rattle.ssd_geo.specs.declared.row.Row.{Row}
use Rattle.ssd_geo.specs.declared.tag.Tag.{Tag}
use Rattle.ssd_geo.specs.declared.trace.TraceCall.{TraceCall}
use Rattle.ssd_geo.specs.declared.trace.Verb.{Verb}
use Rattle.serial_laws.proofs.GrownPasts.{past_is_below}
use Rattle.serial_laws.proofs.Lists.{all_numbered, sum_of_none}
use Rattle.serial_laws.proofs.MadeCalls.{HasNoSteps}
use Rattle.serial_laws.proofs.MadeSteps.{faults_in}
use Rattle.serial_laws.proofs.MadeWrites.{one_step}
use Rattle.serial_laws.proofs.NumberedTags.{IsBelow, later_tag}
use Rattle.shared_lemmas.proofs.Lists.{all_at}
use Rattle.shared_lemmas.proofs.Tests.{same_number}

-- there are steps of each verb: one entry on the call's own channel, and none elsewhere
record IsSome (form : List CallStep → Type 0) : Type 0 where
  steps : List CallStep
  has_form : form steps

on_own_or_none : (b : Bool) (form : List CallStep → Type 0) (steps : List CallStep) → form steps →
    IsSome (λ made. OnOwnChannel b (form made) made)
on_own_or_none true form steps holds = record { steps = steps; has_form = holds }
on_own_or_none false form steps holds = record { steps = []; has_form = refl }

module _ (ladder : List Entry → ℕ → LadderState) (base : ChannelBase) (channels channel : ℕ) (tag : Tag) where
  writes_once : (row : ℕ) → IsWrite ladder base row (one_step tag (Kind.Refused row false) [])
  writes_once row = record {
    parts = [];
    last = one_step tag (Kind.Refused row false) [];
    are_steps = refl;
    are_parts = All-nil (IsWritePart ladder base row);
    ends = inl (same_number row);
    have_cause = refl;
  }

  collects_once : IsCollect ladder base (one_step tag (Kind.Erase 0) [])
  collects_once = record {
    parts = [];
    last = one_step tag (Kind.Erase 0) [];
    are_steps = refl;
    are_parts = All-nil (IsLeftRound ladder base);
    ends = inl (record {
      is_round = record {
        picks = [];
        copies = [];
        erases = one_step tag (Kind.Erase 0) [];
        are_steps = refl;
        one_pick = refl;
        are_copies = All-nil (IsVictimCopy ladder base);
        one_erase = refl;
        ends = refl;
      };
      is_done = refl;
    });
  }

  looks_once : (row : ℕ) → is_lone_look row (one_step tag (Kind.Look row Row.Empty false) []) ≡ true
  looks_once row = same_number row

  some_steps : (verb : Verb) → IsSome (AreStepsOf ladder base channels channel verb)
  some_steps (Verb.Write page content) =
      on_own_or_none (page % channels == channel) (IsWrite ladder base (page / channels))
      (one_step tag (Kind.Refused (page / channels) false) [])
      (writes_once (page / channels))
  some_steps (Verb.Read page) =
      on_own_or_none (page % channels == channel) (IsRead ladder (page / channels))
      (one_step tag (Kind.Look (page / channels) Row.Empty false) [])
      (inl (looks_once (page / channels)))
  some_steps (Verb.Trim page) =
      on_own_or_none (page % channels == channel) (λ steps. IsTrue (is_one (is_trim_of (page / channels)) steps))
      (one_step tag (Kind.Trim (page / channels)) [])
      (same_number (page / channels))
  some_steps (Verb.Refresh page) =
      on_own_or_none (page % channels == channel) (IsRefresh ladder (page / channels))
      (one_step tag (Kind.Look (page / channels) Row.Empty false) [])
      (inl (looks_once (page / channels)))
  some_steps (Verb.Collect named) = on_own_or_none (named == channel) (IsCollect ladder base)
      (one_step tag (Kind.Erase 0) []) collects_once
  some_steps (Verb.Drain count) = record {
    steps = [];
    has_form = record { refreshes = []; are_steps = refl; each = All-nil (IsSomeRefresh ladder); faultless = refl };
  }
  some_steps (Verb.Age named die sb amount) =
      on_own_or_none (named == channel) (λ steps. IsTrue (is_one (is_age_of die sb amount) steps))
      (one_step tag (Kind.Age die sb amount) [])
      (rw (same_number die, same_number sb, same_number amount) refl)

-- an open look is of a call that has an entry, so a call without an entry has left its looks
abbrev is_of_other : Tag → Tag × Look → Bool
is_of_other tag pin = not (is_same_tag tag pin.0)

pub stay_others : (tag : Tag) (at : ℕ) (pins : List (Tag × Look)) → list_all (is_of_other tag) pins ≡ true →
    list_all (is_of_other tag) (without_look pins at) ≡ true
stay_others tag at [] others = refl
stay_others tag at (pin ∷ pins) others =
    let parts = and_parts (is_of_other tag pin) (list_all (is_of_other tag) pins) others in
    by_test (began_at at pin) parts.0 parts.1 (stay_others tag at pins parts.1)
  where
    by_test : (b : Bool) → is_of_other tag pin ≡ true → list_all (is_of_other tag) pins ≡ true →
        list_all (is_of_other tag) (without_look pins at) ≡ true →
        list_all (is_of_other tag) (cond b pins (pin ∷ without_look pins at)) ≡ true
    by_test true first rest without = rest
    by_test false first rest without = rw first without

pub add_other : (tag named : Tag) (look : Option Look) (pins : List (Tag × Look)) → is_same_tag tag named ≡ false →
    list_all (is_of_other tag) pins ≡ true → list_all (is_of_other tag) (with_look named look pins) ≡ true
add_other tag named None pins differs others = others
add_other tag named (Some look) pins differs others =
    list_all-append (is_of_other tag) pins ((named, look) ∷ []) ∙ rw (others, differs) refl

pub after_other : (tag named : Tag) (at : ℕ) (kind : Kind) (pins : List (Tag × Look)) → is_same_tag tag named ≡ false →
    list_all (is_of_other tag) pins ≡ true → list_all (is_of_other tag) (looks_after at named kind pins) ≡ true
after_other tag named at (Kind.Leave left) pins differs others = stay_others tag left pins others
after_other tag named at kind pins differs others = add_other tag named (look_made at kind) pins differs others

looks_of_others : (counts : ℕ → ℕ) (tag : Tag) (past : List Entry) → counts tag.actor ≤ tag.call →
    All (λ entry. IsBelow counts entry.tag) past → list_all (is_of_other tag) (open_looks past) ≡ true
looks_of_others counts tag [] late below = refl
looks_of_others counts tag (entry ∷ past) late below =
    after_other tag entry.tag (length past) entry.kind (open_looks past)
    (later_tag counts tag entry.tag late (All-head (λ (other : Entry). IsBelow counts other.tag) entry past below))
    (looks_of_others counts tag past late (All-tail (λ (other : Entry). IsBelow counts other.tag) entry past below))

pub looks_are_left : (counts : ℕ → ℕ) (calls : List TraceCall) (runs : List ChannelRun) (tag : Tag) →
    counts tag.actor ≤ tag.call → All (λ call. IsBelow counts call.tag) calls →
    All (λ run. IsTrue (list_all (is_of_call calls) run.past)) runs → IsTrue (list_all (is_left tag) runs)
looks_are_left counts calls runs tag late below known =
    list_all-from_AllPass (is_left tag) runs
    (All-weaker (λ (run : ChannelRun). IsTrue (list_all (is_of_call calls) run.past))
    (λ (run : ChannelRun). is_left tag run ≡ true)
    (λ run is. looks_of_others counts tag run.past late (past_is_below counts calls run.past below is)) runs known)

-- a call without an entry is begun
took_none : (verb : Verb) (taken : ℕ) → taken ≡ 0 → TookAtMost verb taken
took_none (Verb.Write page content) taken none = tt
took_none (Verb.Read page) taken none = tt
took_none (Verb.Trim page) taken none = tt
took_none (Verb.Refresh page) taken none = tt
took_none (Verb.Collect channel) taken none = tt
took_none (Verb.Drain count) taken none = omega (arith, none)
took_none (Verb.Age channel die sb amount) taken none = tt

module _ (contents : List (Tag × List ℕ)) (runs : List ChannelRun) (call : TraceCall) (none : HasNoSteps call.tag runs) where
  begins_on : (i : ℕ) (run : ChannelRun) → steps_on call.tag run ≡ [] → IsBegunOn contents (length runs) call (i, run)
  begins_on i run no_step =
      let whole : IsSome (AreStepsOf (ladder_in contents run) run.start.base (length runs) i call.verb) =
      some_steps (ladder_in contents run) run.start.base (length runs) i call.tag call.verb in
      record {
        rest = whole.steps;
        begins =
            subst (λ (made : List CallStep). AreCallSteps contents (length runs) call (i, run) (made ++ whole.steps))
            (sym no_step) whole.has_form;
      }

  no_looks : hints_taken runs call.tag ≡ 0
  no_looks =
      sum_of_none (λ (run : ChannelRun). looks_in_steps (steps_on call.tag run)) runs
      (All-weaker (λ (run : ChannelRun). steps_on call.tag run ≡ [])
      (λ (run : ChannelRun). looks_in_steps (steps_on call.tag run) ≡ 0)
      (λ run no_step. ap looks_in_steps no_step) runs none)

  no_faults : count_of_faults runs call.tag ≡ 0
  no_faults =
      sum_of_none (λ (run : ChannelRun). faults_in (steps_on call.tag run)) runs
      (All-weaker (λ (run : ChannelRun). steps_on call.tag run ≡ [])
      (λ (run : ChannelRun). faults_in (steps_on call.tag run) ≡ 0)
      (λ run no_step. ap faults_in no_step) runs none)

  pub begun_with_none : IsTrue (list_all (is_left call.tag) runs) → IsBegun contents runs call
  begun_with_none left = record {
    on_channels =
        all_numbered (IsBegunOn contents (length runs) call) runs
        (λ i run is. begins_on i run (all_at (λ (named : ChannelRun). steps_on call.tag named ≡ []) runs i run none is));
    few = took_none call.verb (hints_taken runs call.tag) no_looks;
    one_fault = omega (arith, no_faults);
    are_left = left;
  }

-- a call by its place among its actor's
pub as_answered : (contents : List (Tag × List ℕ)) (runs : List ChannelRun) (answered is_first : Bool) (call : TraceCall) →
    answered ≡ true → IsWhole contents runs call → IsAsAnswered contents runs answered is_first call
as_answered contents runs true is_first call is whole = whole
as_answered contents runs false is_first call is whole = absurd (grind arith)

pub as_first : (contents : List (Tag × List ℕ)) (runs : List ChannelRun) (answered is_first : Bool) (call : TraceCall) →
    answered ≡ false → is_first ≡ true → IsBegun contents runs call → IsAsAnswered contents runs answered is_first call
as_first contents runs true is_first call is first begun = absurd (grind arith)
as_first contents runs false true call is first begun = begun
as_first contents runs false false call is first begun = absurd (grind arith)

pub as_unanswered : (contents : List (Tag × List ℕ)) (runs : List ChannelRun) (answered is_first : Bool) (call : TraceCall) →
    answered ≡ false → IsBegun contents runs call → IsNotMade runs call → IsAsAnswered contents runs answered is_first call
as_unanswered contents runs true is_first call is begun none = absurd (grind arith)
as_unanswered contents runs false true call is begun none = begun
as_unanswered contents runs false false call is begun none = none

-- a call without a reply is behind those of its actor that have one
pub no_reply_is : (replies : List (List Reply)) (tag : Tag) → reply_to replies tag ≡ None →
    nat_lt tag.call (answered_by replies tag.actor) ≡ false
no_reply_is replies tag none =
    false_from_ne_true (nat_lt tag.call (answered_by replies tag.actor)) (λ e.
    let low : tag.call < length (slice_index_or replies tag.actor []) = ltb-true tag.call (answered_by replies tag.actor) e in
    let there = slice_get-get_or (slice_index_or replies tag.actor []) tag.call Reply.Ok low in
    absurd (no_Some (slice_index_or (slice_index_or replies tag.actor []) tag.call Reply.Ok) (sym there ∙ none)))
  where
    no_Some : {A : Type 0} (a : A) → ◌≡◌ {A = Option A} (Some a) None → ⊥
    no_Some a e = grind arith
