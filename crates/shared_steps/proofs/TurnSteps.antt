-- What a step in a turn tells of the channel it tells of the caller that took the turn.
use Rattle.std.proofs.Common.{◌≡◌, ℕ, List, Option, ℤ, refl, sym, subst, ◌∙◌}
use Rattle.std.specs.Prelude.{Result}
use Rattle.chan_calls.specs.Caller.{HasLookRoom, HasStepRoom, IsOwn, SameCaller}
use Rattle.chan_calls.specs.Collecting.{MakesErase, MakesLive, MakesNote, MakesPick}
use Rattle.chan_calls.specs.Moving.{Condemns, Moves}
use Rattle.chan_calls.specs.Sensing.{Leaves, Senses}
use Rattle.chan_calls.specs.Stepping.{GoesOn, IsStepped, MakesAge, MakesLook, MakesTrim, MakesWrite, OfEachBase, WritesOn}
use Rattle.chan_state.specs.declared.answers.AgeAnswer.{AgeAnswer}
use Rattle.chan_state.specs.declared.answers.EraseAnswer.{EraseAnswer}
use Rattle.chan_state.specs.declared.answers.MoveAnswer.{MoveAnswer}
use Rattle.chan_state.specs.declared.answers.PickAnswer.{PickAnswer}
use Rattle.chan_state.specs.declared.answers.SenseAnswer.{SenseAnswer}
use Rattle.chan_state.specs.declared.answers.WriteAnswer.{WriteAnswer}
use Rattle.chan_tables.specs.declared.answers.CondemnAnswer.{CondemnAnswer}
use Rattle.chan_tables.specs.declared.answers.LiveAnswer.{LiveAnswer}
use Rattle.chan_tables.specs.declared.answers.LookAnswer.{LookAnswer}
use Rattle.chan_tables.specs.declared.answers.Note.{Note}
use Rattle.ssd_histories.specs.History.{history_of}
use Rattle.ssd_histories.specs.Start.{Start}
use Rattle.ssd_geo.specs.declared.place.Place.{Place}
use Rattle.ssd_geo.specs.declared.stop.StepStop.{StepStop}
use Rattle.ssd_geo.specs.declared.tag.Tag.{Tag}
use Rattle.turn_table.specs.Passes.{LockState, PassState, TurnState, having_seen}
use Rattle.shared_steps.specs.Sharing.{IsTurnOf, view_of_pass}
use Rattle.shared_steps.specs.Tracing.{TracedState, stands_just_for, view_of_traced}
use Rattle.shared_steps.proofs.CarriedSteps.{age_step, condemns, erase_step, goes_on, leaves, live_step, look_step, moves, note_step, pick_step, senses, trim_step, write_step, writes_on}
use Rattle.shared_steps.proofs.SharedSteps.{made_for_shared, returned_shared}

module _ (lock : LockState Start) (contents : List (Tag × List ℕ)) (pass after : PassState) (turn : TurnState TracedState)
    (traced : TracedState) (is : IsTurnOf lock contents pass turn) (tag : Tag) (number : tag.actor ≡ pass.number)
    (seen : after ≡ having_seen pass (history_of traced.channel.past)) where
  pub goes_on_shared : GoesOn (view_of_traced turn.value contents) (view_of_traced traced contents) (stands_just_for
      turn.value.start contents) (stands_just_for traced.start contents) →
      GoesOn (view_of_pass pass lock.start contents) (view_of_pass after lock.start contents) (stands_just_for lock.start
      contents) (stands_just_for lock.start contents)
  goes_on_shared told =
      goes_on (view_of_pass pass lock.start contents) (view_of_traced turn.value contents) (view_of_pass after lock.start
      contents)
      (view_of_traced traced contents) (stands_just_for lock.start contents) (stands_just_for turn.value.start contents)
      (stands_just_for lock.start contents) (stands_just_for traced.start contents) tag
      (made_for_shared lock contents pass turn is tag number) (returned_shared lock contents pass after traced seen) told

  pub writes_on_shared : (row : ℕ) (word : List ℕ) →
      WritesOn (view_of_traced turn.value contents) (view_of_traced traced contents) (stands_just_for turn.value.start
      contents) (stands_just_for traced.start contents) tag row word →
      WritesOn (view_of_pass pass lock.start contents) (view_of_pass after lock.start contents) (stands_just_for lock.start
      contents) (stands_just_for lock.start contents) tag row word
  writes_on_shared row word told =
      writes_on (view_of_pass pass lock.start contents) (view_of_traced turn.value contents) (view_of_pass after lock.start
      contents)
      (view_of_traced traced contents) (stands_just_for lock.start contents) (stands_just_for turn.value.start contents)
      (stands_just_for lock.start contents) (stands_just_for traced.start contents) tag
      (made_for_shared lock contents pass turn is tag number) (returned_shared lock contents pass after traced seen) row word
      told

  pub look_shared : (row : ℕ) (result : Result LookAnswer StepStop) →
      IsStepped HasLookRoom (MakesLook turn.value.channel.shape tag row) tag (view_of_traced turn.value contents)
      (view_of_traced traced contents) result →
      IsStepped HasLookRoom (MakesLook lock.start.base.shape tag row) tag (view_of_pass pass lock.start contents)
      (view_of_pass after lock.start contents) result
  look_shared row result told =
      look_step (view_of_pass pass lock.start contents) (view_of_traced turn.value contents) (view_of_pass after lock.start
      contents)
      (view_of_traced traced contents) (stands_just_for lock.start contents) (stands_just_for turn.value.start contents)
      (stands_just_for lock.start contents) (stands_just_for traced.start contents) tag
      (made_for_shared lock contents pass turn is tag number) (returned_shared lock contents pass after traced seen) row
      result told

  pub write_shared : (row : ℕ) (result : Result WriteAnswer StepStop) →
      IsStepped HasStepRoom (MakesWrite (OfEachBase (view_of_traced turn.value contents) (stands_just_for turn.value.start
      contents)) tag row) tag (view_of_traced turn.value contents) (view_of_traced traced contents) result →
      IsStepped HasStepRoom (MakesWrite (OfEachBase (view_of_pass pass lock.start contents) (stands_just_for lock.start
      contents)) tag row) tag (view_of_pass pass lock.start contents) (view_of_pass after lock.start contents) result
  write_shared row result told =
      write_step (view_of_pass pass lock.start contents) (view_of_traced turn.value contents) (view_of_pass after lock.start
      contents)
      (view_of_traced traced contents) (stands_just_for lock.start contents) (stands_just_for turn.value.start contents)
      (stands_just_for lock.start contents) (stands_just_for traced.start contents) tag
      (made_for_shared lock contents pass turn is tag number) (returned_shared lock contents pass after traced seen) row
      result told

  pub trim_shared : (row : ℕ) (result : Result (Unit {0}) StepStop) →
      IsStepped HasStepRoom (MakesTrim tag row) tag (view_of_traced turn.value contents) (view_of_traced traced contents)
      result →
      IsStepped HasStepRoom (MakesTrim tag row) tag (view_of_pass pass lock.start contents) (view_of_pass after lock.start
      contents) result
  trim_shared row result told =
      trim_step (view_of_pass pass lock.start contents) (view_of_traced turn.value contents) (view_of_pass after lock.start
      contents)
      (view_of_traced traced contents) (stands_just_for lock.start contents) (stands_just_for turn.value.start contents)
      (stands_just_for lock.start contents) (stands_just_for traced.start contents) tag
      (made_for_shared lock contents pass turn is tag number) (returned_shared lock contents pass after traced seen) row
      result told

  pub pick_shared : (result : Result PickAnswer StepStop) →
      IsStepped HasStepRoom (MakesPick (OfEachBase (view_of_traced turn.value contents) (stands_just_for turn.value.start
      contents)) tag) tag (view_of_traced turn.value contents) (view_of_traced traced contents) result →
      IsStepped HasStepRoom (MakesPick (OfEachBase (view_of_pass pass lock.start contents) (stands_just_for lock.start
      contents)) tag) tag (view_of_pass pass lock.start contents) (view_of_pass after lock.start contents) result
  pick_shared result told =
      pick_step (view_of_pass pass lock.start contents) (view_of_traced turn.value contents) (view_of_pass after lock.start
      contents)
      (view_of_traced traced contents) (stands_just_for lock.start contents) (stands_just_for turn.value.start contents)
      (stands_just_for lock.start contents) (stands_just_for traced.start contents) tag
      (made_for_shared lock contents pass turn is tag number) (returned_shared lock contents pass after traced seen) result
      told

  pub live_shared : (sb : ℕ) (result : Result LiveAnswer StepStop) →
      IsStepped HasLookRoom (MakesLive (OfEachBase (view_of_traced turn.value contents) (stands_just_for turn.value.start
      contents)) turn.value.channel.shape tag sb) tag (view_of_traced turn.value contents) (view_of_traced traced contents)
      result →
      IsStepped HasLookRoom (MakesLive (OfEachBase (view_of_pass pass lock.start contents) (stands_just_for lock.start
      contents)) lock.start.base.shape tag sb) tag (view_of_pass pass lock.start contents) (view_of_pass after lock.start
      contents) result
  live_shared sb result told =
      live_step (view_of_pass pass lock.start contents) (view_of_traced turn.value contents) (view_of_pass after lock.start
      contents)
      (view_of_traced traced contents) (stands_just_for lock.start contents) (stands_just_for turn.value.start contents)
      (stands_just_for lock.start contents) (stands_just_for traced.start contents) tag
      (made_for_shared lock contents pass turn is tag number) (returned_shared lock contents pass after traced seen) sb
      result told

  pub erase_shared : (sb : ℕ) (result : Result EraseAnswer StepStop) →
      IsStepped HasStepRoom (MakesErase (OfEachBase (view_of_traced turn.value contents) (stands_just_for turn.value.start
      contents)) tag sb) tag (view_of_traced turn.value contents) (view_of_traced traced contents) result →
      IsStepped HasStepRoom (MakesErase (OfEachBase (view_of_pass pass lock.start contents) (stands_just_for lock.start
      contents)) tag sb) tag (view_of_pass pass lock.start contents) (view_of_pass after lock.start contents) result
  erase_shared sb result told =
      erase_step (view_of_pass pass lock.start contents) (view_of_traced turn.value contents) (view_of_pass after lock.start
      contents)
      (view_of_traced traced contents) (stands_just_for lock.start contents) (stands_just_for turn.value.start contents)
      (stands_just_for lock.start contents) (stands_just_for traced.start contents) tag
      (made_for_shared lock contents pass turn is tag number) (returned_shared lock contents pass after traced seen) sb
      result told

  pub age_shared : (die sb amount : ℕ) (result : Result AgeAnswer StepStop) →
      IsStepped HasStepRoom (MakesAge tag die sb amount) tag (view_of_traced turn.value contents) (view_of_traced traced
      contents) result →
      IsStepped HasStepRoom (MakesAge tag die sb amount) tag (view_of_pass pass lock.start contents) (view_of_pass after
      lock.start contents) result
  age_shared die sb amount result told =
      age_step (view_of_pass pass lock.start contents) (view_of_traced turn.value contents) (view_of_pass after lock.start
      contents)
      (view_of_traced traced contents) (stands_just_for lock.start contents) (stands_just_for turn.value.start contents)
      (stands_just_for lock.start contents) (stands_just_for traced.start contents) tag
      (made_for_shared lock contents pass turn is tag number) (returned_shared lock contents pass after traced seen) die sb
      amount result told

  pub note_shared : (result : Result Note StepStop) →
      IsStepped HasStepRoom (MakesNote tag) tag (view_of_traced turn.value contents) (view_of_traced traced contents) result →
      IsStepped HasStepRoom (MakesNote tag) tag (view_of_pass pass lock.start contents) (view_of_pass after lock.start
      contents) result
  note_shared result told =
      note_step (view_of_pass pass lock.start contents) (view_of_traced turn.value contents) (view_of_pass after lock.start
      contents)
      (view_of_traced traced contents) (stands_just_for lock.start contents) (stands_just_for turn.value.start contents)
      (stands_just_for lock.start contents) (stands_just_for traced.start contents) tag
      (made_for_shared lock contents pass turn is tag number) (returned_shared lock contents pass after traced seen) result
      told

  pub senses_shared : (at : ℕ) (place : Place) (level : ℤ) (before bits : List ℕ) (answer : SenseAnswer) → IsOwn
      (view_of_pass pass lock.start contents) tag at →
      Senses (view_of_traced turn.value contents) (view_of_traced traced contents) (stands_just_for turn.value.start
      contents) (stands_just_for traced.start contents) tag at place level before bits answer →
      Senses (view_of_pass pass lock.start contents) (view_of_pass after lock.start contents) (stands_just_for lock.start
      contents) (stands_just_for lock.start contents) tag at place level before bits answer
  senses_shared at place level before bits answer own told =
      senses (view_of_pass pass lock.start contents) (view_of_traced turn.value contents) (view_of_pass after lock.start
      contents)
      (view_of_traced traced contents) (stands_just_for lock.start contents) (stands_just_for turn.value.start contents)
      (stands_just_for lock.start contents) (stands_just_for traced.start contents) tag
      (made_for_shared lock contents pass turn is tag number) (returned_shared lock contents pass after traced seen) at place
      level before bits answer own told

  pub leaves_shared : (at : ℕ) → IsOwn (view_of_pass pass lock.start contents) tag at →
      Leaves (view_of_traced turn.value contents) (view_of_traced traced contents) (stands_just_for turn.value.start
      contents) (stands_just_for traced.start contents) tag at →
      Leaves (view_of_pass pass lock.start contents) (view_of_pass after lock.start contents) (stands_just_for lock.start
      contents) (stands_just_for lock.start contents) tag at
  leaves_shared at own told =
      leaves (view_of_pass pass lock.start contents) (view_of_traced turn.value contents) (view_of_pass after lock.start
      contents)
      (view_of_traced traced contents) (stands_just_for lock.start contents) (stands_just_for turn.value.start contents)
      (stands_just_for lock.start contents) (stands_just_for traced.start contents) tag
      (made_for_shared lock contents pass turn is tag number) (returned_shared lock contents pass after traced seen) at own
      told

  pub moves_shared : (at : ℕ) (word : List ℕ) (answer : MoveAnswer) → IsOwn (view_of_pass pass lock.start contents) tag at →
      Moves (view_of_traced turn.value contents) (view_of_traced traced contents) (stands_just_for turn.value.start contents)
      (stands_just_for traced.start contents) tag at word answer →
      Moves (view_of_pass pass lock.start contents) (view_of_pass after lock.start contents) (stands_just_for lock.start
      contents) (stands_just_for lock.start contents) tag at word answer
  moves_shared at word answer own told =
      moves (view_of_pass pass lock.start contents) (view_of_traced turn.value contents) (view_of_pass after lock.start
      contents)
      (view_of_traced traced contents) (stands_just_for lock.start contents) (stands_just_for turn.value.start contents)
      (stands_just_for lock.start contents) (stands_just_for traced.start contents) tag
      (made_for_shared lock contents pass turn is tag number) (returned_shared lock contents pass after traced seen) at word
      answer own told

  pub condemns_shared : (at : ℕ) (answer : CondemnAnswer) → IsOwn (view_of_pass pass lock.start contents) tag at →
      Condemns (view_of_traced turn.value contents) (view_of_traced traced contents) (stands_just_for turn.value.start
      contents) (stands_just_for traced.start contents) tag at answer →
      Condemns (view_of_pass pass lock.start contents) (view_of_pass after lock.start contents) (stands_just_for lock.start
      contents) (stands_just_for lock.start contents) tag at answer
  condemns_shared at answer own told =
      condemns (view_of_pass pass lock.start contents) (view_of_traced turn.value contents) (view_of_pass after lock.start
      contents)
      (view_of_traced traced contents) (stands_just_for lock.start contents) (stands_just_for turn.value.start contents)
      (stands_just_for lock.start contents) (stands_just_for traced.start contents) tag
      (made_for_shared lock contents pass turn is tag number) (returned_shared lock contents pass after traced seen) at
      answer own told
