-- A channel that stands for a start and contents makes the steps that a caller makes that is alone on it.
use Rattle.std.proofs.Common.{◌≡◌, ℕ, [], List, refl, sym, ap, subst, ◌∙◌, Option, Some, ℤ, arith}
use Rattle.std.specs.Prelude.{Result}
use Rattle.chan_calls.specs.Alone.{view_of_lent}
use Rattle.chan_calls.specs.Caller.{HasLookRoom, HasStepRoom, IsOwn, SameCaller}
use Rattle.chan_calls.specs.Collecting.{MakesErase, MakesLive, MakesNote, MakesPick}
use Rattle.chan_calls.specs.Moving.{Condemns, Moves}
use Rattle.chan_calls.specs.Sensing.{Leaves, Senses}
use Rattle.chan_calls.specs.Stepping.{GoesOn, IsStepped, MakesAge, MakesLook, MakesTrim, MakesWrite, OfEachBase, WritesOn}
use Rattle.chan_calls.proofs.AloneSteps.{is_of_standing}
use Rattle.chan_state.specs.ChannelState.{StandsFor}
use Rattle.chan_state.specs.declared.answers.AgeAnswer.{AgeAnswer}
use Rattle.chan_state.specs.declared.answers.EraseAnswer.{EraseAnswer}
use Rattle.chan_state.specs.declared.answers.MoveAnswer.{MoveAnswer}
use Rattle.chan_state.specs.declared.answers.PickAnswer.{PickAnswer}
use Rattle.chan_state.specs.declared.answers.SenseAnswer.{SenseAnswer}
use Rattle.chan_state.specs.declared.answers.WriteAnswer.{WriteAnswer}
use Rattle.chan_tables.specs.declared.answers.CondemnAnswer.{CondemnAnswer}
use Rattle.chan_tables.specs.declared.answers.LiveAnswer.{LiveAnswer}
use Rattle.chan_tables.specs.declared.answers.LookAnswer.{LookAnswer}
use Rattle.chan_tables.specs.declared.answers.Note.{Note}
use Rattle.ssd_histories.specs.Start.{Start}
use Rattle.ssd_geo.specs.declared.place.Place.{Place}
use Rattle.ssd_geo.specs.declared.stop.StepStop.{StepStop}
use Rattle.ssd_geo.specs.declared.tag.Tag.{Tag}
use Rattle.shared_steps.specs.Tracing.{IsTraced, TracedState, stands_just_for, view_of_traced}
use Rattle.shared_steps.proofs.CarriedSteps.{ReturnsTo, StepsFor, age_step, condemns, erase_step, goes_on, leaves, live_step, look_step, moves, note_step, pick_step, senses, trim_step, write_step, writes_on}

-- what stands for a start and contents stands for those that are the same
stands_there : (traced : TracedState) (contents : List (Tag × List ℕ)) → IsTraced traced contents → (start : Start) (listed :
    List (Tag × List ℕ)) →
    stands_just_for traced.start contents start listed → StandsFor traced.channel traced.told start listed
stands_there traced contents stands start listed just =
    subst (λ (s : Start). StandsFor traced.channel traced.told s listed) (sym just.0)
    (subst (λ (d : List (Tag × List ℕ)). StandsFor traced.channel traced.told traced.start d) (sym just.1) stands)

-- it is alone, and has seen its past
pub made_for_traced : (traced : TracedState) (contents : List (Tag × List ℕ)) (tag : Tag) → IsTraced traced contents →
    StepsFor (view_of_traced traced contents) (view_of_lent traced.channel 0) (stands_just_for traced.start contents)
    (StandsFor traced.channel traced.told) tag
made_for_traced traced contents tag stands = record {
  limit_is = refl;
  shape_is = refl;
  comes = record {
    others = [];
    now_is = refl;
    of_others = λ k d low. absurd (omega arith);
    none_alone = λ _. refl;
    looks_stay = λ _. refl;
    senses_stay = λ _ _. refl;
    faults_stay = λ _ _. refl;
    recovered_stay = λ _ _. refl;
    uncorrectable_stay = λ _ _. refl;
  };
  alone = refl;
  reaches = λ start listed just.
      let there = stands_there traced contents stands start listed just in
      (is_of_standing traced.channel 0 traced.told start listed there, there);
  looks = λ start listed just at own. record { look_stays = refl; sensed_stays = refl };
}

-- what is told of the channel then is told of it
pub returned_traced : (before after : TracedState) (contents : List (Tag × List ℕ)) → after.start ≡ before.start →
    ReturnsTo (view_of_traced after contents) (view_of_lent after.channel 0) (stands_just_for before.start contents)
    (stands_just_for after.start contents) (StandsFor after.channel after.told)
returned_traced before after contents same = record {
  seen_is = refl;
  returns = λ start listed just of stands. (
    record { is_past = of.is_past; limit_is = of.limit_is; shape_is = of.shape_is; session_is = of.session_is },
    (just.0 ∙ sym same, just.1),
  );
}

-- the steps of a channel that was traced, and is now seen as this: what was told of it as of one that was lent is told of it
module _ (was now after : TracedState) (view_is : was ≡ now) (contents : List (Tag × List ℕ)) (tag : Tag) (stands : IsTraced
    was contents)
    (same : after.start ≡ was.start) where
  seen_as : (fact : TracedState → Type 0) → fact was → fact now
  seen_as fact is = subst fact view_is is

  pub same_of : SameCaller (view_of_lent was.channel 0) (view_of_lent after.channel 0) →
      SameCaller (view_of_traced now contents) (view_of_traced after contents)
  same_of stays =
      seen_as (λ (traced : TracedState). SameCaller (view_of_traced traced contents) (view_of_traced after contents)) (record {
        limit_stays = stays.limit_stays;
        shape_stays = stays.shape_stays;
        session_stays = stays.session_stays;
        number_stays = refl;
        bound_stays = ap {B = Option (Start × List (Tag × List ℕ))} (λ (start : Start). Some (start, contents)) same;
        reference_stays = refl;
      })

  pub goes_on_of : GoesOn (view_of_lent was.channel 0) (view_of_lent after.channel 0) (StandsFor was.channel was.told)
      (StandsFor after.channel after.told) →
      GoesOn (view_of_traced now contents) (view_of_traced after contents) (stands_just_for now.start contents)
      (stands_just_for after.start contents)
  goes_on_of told =
      seen_as (λ (traced : TracedState). GoesOn (view_of_traced traced contents) (view_of_traced after contents)
      (stands_just_for traced.start contents) (stands_just_for after.start contents))
      (goes_on (view_of_traced was contents) (view_of_lent was.channel 0) (view_of_traced after contents) (view_of_lent
      after.channel 0)
      (stands_just_for was.start contents) (StandsFor was.channel was.told) (stands_just_for after.start contents)
      (StandsFor after.channel after.told) tag (made_for_traced was contents tag stands) (returned_traced was after contents
      same) told)

  pub writes_on_of : (row : ℕ) (word : List ℕ) →
      WritesOn (view_of_lent was.channel 0) (view_of_lent after.channel 0) (StandsFor was.channel was.told)
      (StandsFor after.channel after.told) tag row word →
      WritesOn (view_of_traced now contents) (view_of_traced after contents) (stands_just_for now.start contents)
      (stands_just_for after.start contents) tag row word
  writes_on_of row word told =
      seen_as (λ (traced : TracedState). WritesOn (view_of_traced traced contents) (view_of_traced after contents)
      (stands_just_for traced.start contents) (stands_just_for after.start contents) tag row word)
      (writes_on (view_of_traced was contents) (view_of_lent was.channel 0) (view_of_traced after contents) (view_of_lent
      after.channel 0)
      (stands_just_for was.start contents) (StandsFor was.channel was.told) (stands_just_for after.start contents)
      (StandsFor after.channel after.told) tag (made_for_traced was contents tag stands) (returned_traced was after contents
      same) row word told)

  pub look_of : (row : ℕ) (result : Result LookAnswer StepStop) →
      IsStepped HasLookRoom (MakesLook was.channel.shape tag row) tag (view_of_lent was.channel 0) (view_of_lent
      after.channel 0) result →
      IsStepped HasLookRoom (MakesLook now.channel.shape tag row) tag (view_of_traced now contents) (view_of_traced after
      contents) result
  look_of row result told =
      seen_as (λ (traced : TracedState).
      IsStepped HasLookRoom (MakesLook traced.channel.shape tag row) tag (view_of_traced traced contents) (view_of_traced
      after contents) result)
      (look_step (view_of_traced was contents) (view_of_lent was.channel 0) (view_of_traced after contents) (view_of_lent
      after.channel 0)
      (stands_just_for was.start contents) (StandsFor was.channel was.told) (stands_just_for after.start contents)
      (StandsFor after.channel after.told) tag (made_for_traced was contents tag stands) (returned_traced was after contents
      same) row result told)

  pub write_of : (row : ℕ) (result : Result WriteAnswer StepStop) →
      IsStepped HasStepRoom (MakesWrite (OfEachBase (view_of_lent was.channel 0) (StandsFor was.channel was.told)) tag row)
      tag (view_of_lent was.channel 0) (view_of_lent after.channel 0) result →
      IsStepped HasStepRoom (MakesWrite (OfEachBase (view_of_traced now contents) (stands_just_for now.start contents)) tag
      row) tag (view_of_traced now contents) (view_of_traced after contents) result
  write_of row result told =
      seen_as (λ (traced : TracedState).
      IsStepped HasStepRoom (MakesWrite (OfEachBase (view_of_traced traced contents) (stands_just_for traced.start contents))
      tag row) tag (view_of_traced traced contents) (view_of_traced after contents) result)
      (write_step (view_of_traced was contents) (view_of_lent was.channel 0) (view_of_traced after contents) (view_of_lent
      after.channel 0)
      (stands_just_for was.start contents) (StandsFor was.channel was.told) (stands_just_for after.start contents)
      (StandsFor after.channel after.told) tag (made_for_traced was contents tag stands) (returned_traced was after contents
      same) row result told)

  pub trim_of : (row : ℕ) (result : Result (Unit {0}) StepStop) →
      IsStepped HasStepRoom (MakesTrim tag row) tag (view_of_lent was.channel 0) (view_of_lent after.channel 0) result →
      IsStepped HasStepRoom (MakesTrim tag row) tag (view_of_traced now contents) (view_of_traced after contents) result
  trim_of row result told =
      seen_as (λ (traced : TracedState).
      IsStepped HasStepRoom (MakesTrim tag row) tag (view_of_traced traced contents) (view_of_traced after contents) result)
      (trim_step (view_of_traced was contents) (view_of_lent was.channel 0) (view_of_traced after contents) (view_of_lent
      after.channel 0)
      (stands_just_for was.start contents) (StandsFor was.channel was.told) (stands_just_for after.start contents)
      (StandsFor after.channel after.told) tag (made_for_traced was contents tag stands) (returned_traced was after contents
      same) row result told)

  pub pick_of : (result : Result PickAnswer StepStop) →
      IsStepped HasStepRoom (MakesPick (OfEachBase (view_of_lent was.channel 0) (StandsFor was.channel was.told)) tag) tag
      (view_of_lent was.channel 0) (view_of_lent after.channel 0) result →
      IsStepped HasStepRoom (MakesPick (OfEachBase (view_of_traced now contents) (stands_just_for now.start contents)) tag)
      tag (view_of_traced now contents) (view_of_traced after contents) result
  pick_of result told =
      seen_as (λ (traced : TracedState).
      IsStepped HasStepRoom (MakesPick (OfEachBase (view_of_traced traced contents) (stands_just_for traced.start contents))
      tag) tag (view_of_traced traced contents) (view_of_traced after contents) result)
      (pick_step (view_of_traced was contents) (view_of_lent was.channel 0) (view_of_traced after contents) (view_of_lent
      after.channel 0)
      (stands_just_for was.start contents) (StandsFor was.channel was.told) (stands_just_for after.start contents)
      (StandsFor after.channel after.told) tag (made_for_traced was contents tag stands) (returned_traced was after contents
      same) result told)

  pub live_of : (sb : ℕ) (result : Result LiveAnswer StepStop) →
      IsStepped HasLookRoom (MakesLive (OfEachBase (view_of_lent was.channel 0) (StandsFor was.channel was.told))
      was.channel.shape tag sb) tag (view_of_lent was.channel 0) (view_of_lent after.channel 0) result →
      IsStepped HasLookRoom (MakesLive (OfEachBase (view_of_traced now contents) (stands_just_for now.start contents))
      now.channel.shape tag sb) tag (view_of_traced now contents) (view_of_traced after contents) result
  live_of sb result told =
      seen_as (λ (traced : TracedState).
      IsStepped HasLookRoom (MakesLive (OfEachBase (view_of_traced traced contents) (stands_just_for traced.start contents))
      traced.channel.shape tag sb) tag (view_of_traced traced contents) (view_of_traced after contents) result)
      (live_step (view_of_traced was contents) (view_of_lent was.channel 0) (view_of_traced after contents) (view_of_lent
      after.channel 0)
      (stands_just_for was.start contents) (StandsFor was.channel was.told) (stands_just_for after.start contents)
      (StandsFor after.channel after.told) tag (made_for_traced was contents tag stands) (returned_traced was after contents
      same) sb result told)

  pub erase_of : (sb : ℕ) (result : Result EraseAnswer StepStop) →
      IsStepped HasStepRoom (MakesErase (OfEachBase (view_of_lent was.channel 0) (StandsFor was.channel was.told)) tag sb)
      tag (view_of_lent was.channel 0) (view_of_lent after.channel 0) result →
      IsStepped HasStepRoom (MakesErase (OfEachBase (view_of_traced now contents) (stands_just_for now.start contents)) tag
      sb) tag (view_of_traced now contents) (view_of_traced after contents) result
  erase_of sb result told =
      seen_as (λ (traced : TracedState).
      IsStepped HasStepRoom (MakesErase (OfEachBase (view_of_traced traced contents) (stands_just_for traced.start contents))
      tag sb) tag (view_of_traced traced contents) (view_of_traced after contents) result)
      (erase_step (view_of_traced was contents) (view_of_lent was.channel 0) (view_of_traced after contents) (view_of_lent
      after.channel 0)
      (stands_just_for was.start contents) (StandsFor was.channel was.told) (stands_just_for after.start contents)
      (StandsFor after.channel after.told) tag (made_for_traced was contents tag stands) (returned_traced was after contents
      same) sb result told)

  pub age_of : (die sb amount : ℕ) (result : Result AgeAnswer StepStop) →
      IsStepped HasStepRoom (MakesAge tag die sb amount) tag (view_of_lent was.channel 0) (view_of_lent after.channel 0)
      result →
      IsStepped HasStepRoom (MakesAge tag die sb amount) tag (view_of_traced now contents) (view_of_traced after contents)
      result
  age_of die sb amount result told =
      seen_as (λ (traced : TracedState).
      IsStepped HasStepRoom (MakesAge tag die sb amount) tag (view_of_traced traced contents) (view_of_traced after contents)
      result)
      (age_step (view_of_traced was contents) (view_of_lent was.channel 0) (view_of_traced after contents) (view_of_lent
      after.channel 0)
      (stands_just_for was.start contents) (StandsFor was.channel was.told) (stands_just_for after.start contents)
      (StandsFor after.channel after.told) tag (made_for_traced was contents tag stands) (returned_traced was after contents
      same) die sb amount result told)

  pub note_of : (result : Result Note StepStop) →
      IsStepped HasStepRoom (MakesNote tag) tag (view_of_lent was.channel 0) (view_of_lent after.channel 0) result →
      IsStepped HasStepRoom (MakesNote tag) tag (view_of_traced now contents) (view_of_traced after contents) result
  note_of result told =
      seen_as (λ (traced : TracedState).
      IsStepped HasStepRoom (MakesNote tag) tag (view_of_traced traced contents) (view_of_traced after contents) result)
      (note_step (view_of_traced was contents) (view_of_lent was.channel 0) (view_of_traced after contents) (view_of_lent
      after.channel 0)
      (stands_just_for was.start contents) (StandsFor was.channel was.told) (stands_just_for after.start contents)
      (StandsFor after.channel after.told) tag (made_for_traced was contents tag stands) (returned_traced was after contents
      same) result told)

  pub senses_of : (at : ℕ) (place : Place) (level : ℤ) (before bits : List ℕ) (answer : SenseAnswer) → IsOwn (view_of_traced
      was contents) tag at →
      Senses (view_of_lent was.channel 0) (view_of_lent after.channel 0) (StandsFor was.channel was.told) (StandsFor
      after.channel after.told) tag at place level before bits answer →
      Senses (view_of_traced now contents) (view_of_traced after contents) (stands_just_for now.start contents)
      (stands_just_for after.start contents) tag at place level before bits answer
  senses_of at place level before bits answer own told =
      seen_as (λ (traced : TracedState).
      Senses (view_of_traced traced contents) (view_of_traced after contents) (stands_just_for traced.start contents)
      (stands_just_for after.start contents) tag at place level before bits answer)
      (senses (view_of_traced was contents) (view_of_lent was.channel 0) (view_of_traced after contents) (view_of_lent
      after.channel 0)
      (stands_just_for was.start contents) (StandsFor was.channel was.told) (stands_just_for after.start contents)
      (StandsFor after.channel after.told) tag (made_for_traced was contents tag stands) (returned_traced was after contents
      same) at place level before bits answer own told)

  pub leaves_of : (at : ℕ) → IsOwn (view_of_traced was contents) tag at →
      Leaves (view_of_lent was.channel 0) (view_of_lent after.channel 0) (StandsFor was.channel was.told) (StandsFor
      after.channel after.told) tag at →
      Leaves (view_of_traced now contents) (view_of_traced after contents) (stands_just_for now.start contents)
      (stands_just_for after.start contents) tag at
  leaves_of at own told =
      seen_as (λ (traced : TracedState).
      Leaves (view_of_traced traced contents) (view_of_traced after contents) (stands_just_for traced.start contents)
      (stands_just_for after.start contents) tag at)
      (leaves (view_of_traced was contents) (view_of_lent was.channel 0) (view_of_traced after contents) (view_of_lent
      after.channel 0)
      (stands_just_for was.start contents) (StandsFor was.channel was.told) (stands_just_for after.start contents)
      (StandsFor after.channel after.told) tag (made_for_traced was contents tag stands) (returned_traced was after contents
      same) at own told)

  pub moves_of : (at : ℕ) (word : List ℕ) (answer : MoveAnswer) → IsOwn (view_of_traced was contents) tag at →
      Moves (view_of_lent was.channel 0) (view_of_lent after.channel 0) (StandsFor was.channel was.told) (StandsFor
      after.channel after.told) tag at word answer →
      Moves (view_of_traced now contents) (view_of_traced after contents) (stands_just_for now.start contents)
      (stands_just_for after.start contents) tag at word answer
  moves_of at word answer own told =
      seen_as (λ (traced : TracedState).
      Moves (view_of_traced traced contents) (view_of_traced after contents) (stands_just_for traced.start contents)
      (stands_just_for after.start contents) tag at word answer)
      (moves (view_of_traced was contents) (view_of_lent was.channel 0) (view_of_traced after contents) (view_of_lent
      after.channel 0)
      (stands_just_for was.start contents) (StandsFor was.channel was.told) (stands_just_for after.start contents)
      (StandsFor after.channel after.told) tag (made_for_traced was contents tag stands) (returned_traced was after contents
      same) at word answer own told)

  pub condemns_of : (at : ℕ) (answer : CondemnAnswer) → IsOwn (view_of_traced was contents) tag at →
      Condemns (view_of_lent was.channel 0) (view_of_lent after.channel 0) (StandsFor was.channel was.told) (StandsFor
      after.channel after.told) tag at answer →
      Condemns (view_of_traced now contents) (view_of_traced after contents) (stands_just_for now.start contents)
      (stands_just_for after.start contents) tag at answer
  condemns_of at answer own told =
      seen_as (λ (traced : TracedState).
      Condemns (view_of_traced traced contents) (view_of_traced after contents) (stands_just_for traced.start contents)
      (stands_just_for after.start contents) tag at answer)
      (condemns (view_of_traced was contents) (view_of_lent was.channel 0) (view_of_traced after contents) (view_of_lent
      after.channel 0)
      (stands_just_for was.start contents) (StandsFor was.channel was.told) (stands_just_for after.start contents)
      (StandsFor after.channel after.told) tag (made_for_traced was contents tag stands) (returned_traced was after contents
      same) at answer own told)
