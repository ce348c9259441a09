-- A step of a caller that is alone finds the past that the caller has seen, and adds to that.
use Rattle.std.proofs.Common.{◌≡◌, ℕ, ◌+◌, ◌≤◌, [], List, length, Option, refl, sym, ap, subst, arith}
use Rattle.std.specs.Prelude.{IfOk, OnErr, Result, Ok, Err}
use Rattle.chan_tables.specs.TablesState.{IsStopped, room_of_look, room_of_step}
use Rattle.chan_state.specs.ChannelState.{ChannelState, KeepsStanding, SameDrive, StandsFor}
use Rattle.chan_state.specs.Collecting.{MovesView}
use Rattle.chan_state.specs.Starting.{HasBegun}
use Rattle.chan_state.specs.Steps as steps
use Rattle.chan_state.specs.Steps.{CountAt}
use Rattle.onfi_cmd.specs.DieState.{DieState}
use Rattle.ssd_histories.specs.Start.{Start}
use Rattle.ssd_geo.specs.declared.base.ChannelBase.{ChannelBase}
use Rattle.ssd_geo.specs.declared.entry.Entry.{Entry}
use Rattle.ssd_geo.specs.declared.look.Look.{Look}
use Rattle.ssd_geo.specs.declared.policy_view.PolicyView.{PolicyView}
use Rattle.ssd_geo.specs.declared.stop.StepStop.{StepStop}
use Rattle.ssd_geo.specs.declared.tag.Tag.{Tag}
use Rattle.chan_calls.specs.Alone.{KeepsOpenLooks, view_of_lent}
use Rattle.chan_calls.specs.Caller.{Comes, HasLookRoom, HasStepRoom, IsOf, SameCaller}
use Rattle.chan_calls.specs.Stepping.{GoesOn, IsStepped}

-- nothing comes between the steps of a caller that is alone
pub comes_alone : (channel : ChannelState) (reference : ℕ) (tag : Tag) →
    Comes (view_of_lent channel reference) tag channel.past
comes_alone channel reference tag = record {
  others = [];
  now_is = refl;
  of_others = λ k d low. absurd (omega arith);
  none_alone = λ _. refl;
  looks_stay = λ _. refl;
  senses_stay = λ _ _. refl;
  faults_stay = λ _ _. refl;
  recovered_stay = λ _ _. refl;
  uncorrectable_stay = λ _ _. refl;
}

-- it has seen a past of what its channel stands for
pub is_of_standing : (channel : ChannelState) (reference : ℕ) (view : Option PolicyView)
    (start : Start) (contents : List (Tag × List ℕ)) → StandsFor channel view start contents →
    IsOf (view_of_lent channel reference) start contents
is_of_standing channel reference view start contents stands = record {
  is_past = stands.is_past;
  limit_is = stands.limit_is;
  shape_is = stands.shape_is;
  session_is = stands.session_is;
}

-- a channel that has begun may be lent
pub begun_keeps : (base : ChannelBase) (limit : ℕ) (dies : List DieState)
    (view : Option PolicyView) (channel : ChannelState) → HasBegun base limit dies view channel →
    KeepsOpenLooks channel
begun_keeps base limit dies view channel begun = (begun.stands []).looks_are

module _ (old new : ChannelState) (reference : ℕ) (tag : Tag) where
  -- a step leaves the drive as it is
  pub same_drive : SameDrive old new →
      SameCaller (view_of_lent old reference) (view_of_lent new reference)
  same_drive same = record {
    limit_stays = same.limit_stays;
    shape_stays = same.shape_stays;
    session_stays = same.session_stays;
    number_stays = refl;
    bound_stays = refl;
    reference_stays = refl;
  }

  pub same_still : new ≡ old →
      SameCaller (view_of_lent old reference) (view_of_lent new reference)
  same_still same = same_drive (record {
    shape_stays = ap (λ (c : ChannelState). c.shape) same;
    session_stays = ap (λ (c : ChannelState). c.session) same;
    limit_stays = ap (λ (c : ChannelState). c.limit) same;
  })

  pub past_still : new ≡ old → new.past ≡ old.past
  past_still same = ap (λ (c : ChannelState). c.past) same

  -- and so whatever a step answers
  pub same_after : {A : Type 0} (P : A → Type 0) (result : Result A StepStop) →
      ((answer : A) → P answer →
      SameCaller (view_of_lent old reference) (view_of_lent new reference)) →
      IfOk result P → OnErr result (new ≡ old) →
      SameCaller (view_of_lent old reference) (view_of_lent new reference)
  same_after P (Ok answer) each ok err = each answer ok
  same_after P (Err stop) each ok err = same_still err

  -- a step that wants room makes what it answers, or nothing
  pub step_made : {A : Type 0} (has_room : ℕ → List Entry → Type 0)
      (makes : List Entry → A → List Entry → Type 0) (P : A → Type 0)
      (result : Result A StepStop) →
      IsStopped (has_room old.limit old.past) (length old.past) result →
      ((answer : A) → P answer → makes old.past answer new.past) →
      IfOk result P → OnErr result (new ≡ old) →
      IsStepped has_room makes tag (view_of_lent old reference) (view_of_lent new reference) result
  step_made has_room makes P (Ok answer) room each ok err =
      (old.past, comes_alone old reference tag, room, each answer ok)
  step_made has_room makes P (Err (StepStop.HistoryFull told)) room each ok err =
      (old.past, comes_alone old reference tag, room.0, room.1, past_still err)
  step_made has_room makes P (Err StepStop.Memory) room each ok err =
      (old.past, comes_alone old reference tag, room, past_still err)

  -- the room of the channel is that of its past
  pub look_room : {A : Type 0} (result : Result A StepStop) → KeepsOpenLooks old →
      steps.IsRefused (steps.HasLookRoom old) old result →
      IsStopped (HasLookRoom old.limit old.past) (length old.past) result
  look_room result keeps room =
      subst (λ (looks : List (Tag × Look)). IsStopped (length old.past + room_of_look looks
      ≤ old.limit) (length old.past) result) keeps room

  pub step_room : {A : Type 0} (result : Result A StepStop) → KeepsOpenLooks old →
      steps.IsRefused (steps.HasStepRoom old) old result →
      IsStopped (HasStepRoom old.limit old.past) (length old.past) result
  step_room result keeps room =
      subst (λ (looks : List (Tag × Look)). IsStopped (length old.past + room_of_step looks
      ≤ old.limit) (length old.past) result) keeps room

  -- a step that adds no entry leaves the channel
  pub counts_err : {A : Type 0} (named : A → Option ℕ) (result : Result A StepStop) →
      CountAt named old new result → OnErr result (new ≡ old)
  counts_err named (Ok answer) counts = tt
  counts_err named (Err stop) counts = counts

  -- what the channel stood for it stands for, where the policy's view is the same
  pub keeps_view : (was now : Option PolicyView) → KeepsStanding old new → now ≡ was →
      MovesView old was new now
  keeps_view was now keeps same = λ start contents stands.
      subst (λ (view : Option PolicyView). StandsFor new view start contents) (sym same)
      (keeps was start contents stands)

  pub goes_on_alone : (was now : Option PolicyView) → MovesView old was new now →
      GoesOn (view_of_lent old reference) (view_of_lent new reference) (StandsFor old was)
      (StandsFor new now)
  goes_on_alone was now moves = λ start contents of stood.
      let after : StandsFor new now start contents = moves start contents stood in
      (is_of_standing new reference now start contents after, after)
