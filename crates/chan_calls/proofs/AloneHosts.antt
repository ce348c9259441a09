-- The steps of reads, writes, trims and ageings of a caller that is alone.
use Rattle.std.proofs.Common.{◌≡◌, ℕ, List, ◌∷◌, Option, refl, sym, subst, ◌∙◌}
use Rattle.std.specs.Prelude.{IfOk, OnOk, Result, Ok, Err, ℤ}
use Rattle.chan_state.specs.ChannelState.{ChannelState, StandsFor}
use Rattle.chan_state.specs.Steps as steps
use Rattle.chan_state.specs.Steps.{AddsEntry, IsWordOf}
use Rattle.chan_state.specs.Writing.{Writes, WritesFor}
use Rattle.chan_state.specs.declared.answers.AgeAnswer.{AgeAnswer}
use Rattle.chan_state.specs.declared.answers.AgeAnswer.TheVariants as age
use Rattle.chan_state.specs.declared.answers.SenseAnswer.{SenseAnswer}
use Rattle.chan_state.specs.declared.answers.SenseAnswer.TheVariants as sense
use Rattle.chan_state.specs.declared.answers.WriteAnswer.{WriteAnswer}
use Rattle.chan_state.specs.declared.answers.WriteAnswer.TheVariants.{DieFault, Failed, Full, NeedRoom, ReadOnly, Written}
use Rattle.chan_tables.specs.declared.answers.LookAnswer.{LookAnswer}
use Rattle.chan_tables.specs.declared.answers.LookAnswer.TheVariants.{Empty, Found, Lost}
use Rattle.ssd_histories.specs.SerialCalls.{entry_of}
use Rattle.ssd_histories.specs.Start.{Start}
use Rattle.ssd_geo.specs.declared.kind.Kind.{Kind}
use Rattle.ssd_geo.specs.declared.place.Place.{Place}
use Rattle.ssd_geo.specs.declared.policy_view.PolicyView.{PolicyView}
use Rattle.ssd_geo.specs.declared.stop.StepStop.{StepStop}
use Rattle.ssd_geo.specs.declared.tag.Tag.{Tag}
use Rattle.chan_calls.specs.Alone.{view_of_lent}
use Rattle.chan_calls.specs.Caller.{SameCaller}
use Rattle.chan_calls.specs.Sensing.{FailsAt, GivesBits, Leaves, Senses, kind_of_sense}
use Rattle.chan_calls.specs.Stepping.{MakesAge, MakesLook, MakesWrite, OfEachBase, WritesOn}
use Rattle.chan_calls.proofs.AloneSteps.{comes_alone, is_of_standing, past_still, same_drive, same_still}
use Rattle.chan_calls.proofs.AloneTables.{full_is, needs_room_of, of_each, room_is, worn_is}

-- what holds wherever there is an answer
pub if_ok : {A : Type 0} (P : Type 0) (result : Result A StepStop) → OnOk result P →
    IfOk result (λ answer. P)
if_ok P (Ok answer) ok = ok
if_ok P (Err stop) ok = tt

module _ (old new : ChannelState) (was : Option PolicyView) (reference : ℕ) (tag : Tag) where
  pub look_makes : (row : ℕ) (answer : LookAnswer) → steps.LooksAt old new tag row answer →
      MakesLook old.shape tag row old.past answer new.past
  look_makes row Empty looks = looks.1.past_is
  look_makes row Lost looks = looks.1.past_is
  look_makes row (Found look) looks = (looks.1, looks.2, looks.6, looks.3.past_is)

  pub look_keeps : (row : ℕ) (answer : LookAnswer) → steps.LooksAt old new tag row answer →
      SameCaller (view_of_lent old reference) (view_of_lent new reference)
  look_keeps row Empty looks = same_drive old new reference tag looks.1.same_drive
  look_keeps row Lost looks = same_drive old new reference tag looks.1.same_drive
  look_keeps row (Found look) looks = same_drive old new reference tag looks.3.same_drive

  pub write_makes : (row : ℕ) (answer : WriteAnswer) → Writes old new tag row answer →
      MakesWrite (OfEachBase (view_of_lent old reference) (StandsFor old was)) tag row old.past
      answer new.past
  write_makes row (Written slot) writes = (
    writes.2.past_is,
    of_each old was reference _ (λ start contents stands.
        sym (room_is old was start contents stands) ∙ writes.0),
  )
  write_makes row (Failed sb) writes = (
    writes.1.slot,
    writes.1.die,
    writes.1.sb_is,
    writes.1.fails.entry.past_is,
    of_each old was reference _ (λ start contents stands.
        sym (room_is old was start contents stands) ∙ writes.0),
  )
  write_makes row (DieFault die) writes = (
    writes.1.slot,
    writes.1.fails.entry.past_is,
    of_each old was reference _
        (λ start contents stands. sym (room_is old was start contents stands) ∙ writes.0),
  )
  write_makes row ReadOnly writes = (
    writes.2.past_is,
    of_each old was reference _ (λ start contents stands. (
      sym (room_is old was start contents stands) ∙ writes.0,
      sym (worn_is old was start contents stands) ∙ writes.1,
    )),
  )
  write_makes row Full writes = (
    writes.3.past_is,
    of_each old was reference _ (λ start contents stands. (
      sym (room_is old was start contents stands) ∙ writes.0,
      sym (worn_is old was start contents stands) ∙ writes.1,
      sym (full_is old was start contents stands) ∙ writes.2,
    )),
  )
  write_makes row NeedRoom writes = (
    past_still old new reference tag writes.3,
    of_each old was reference _
        (λ start contents stands. needs_room_of old was start contents stands writes.0 writes.1
        writes.2),
  )

  pub write_keeps : (row : ℕ) (answer : WriteAnswer) → Writes old new tag row answer →
      SameCaller (view_of_lent old reference) (view_of_lent new reference)
  write_keeps row (Written slot) writes = same_drive old new reference tag writes.2.same_drive
  write_keeps row (Failed sb) writes =
      same_drive old new reference tag writes.1.fails.entry.same_drive
  write_keeps row (DieFault die) writes =
      same_drive old new reference tag writes.1.fails.entry.same_drive
  write_keeps row ReadOnly writes = same_drive old new reference tag writes.2.same_drive
  write_keeps row Full writes = same_drive old new reference tag writes.3.same_drive
  write_keeps row NeedRoom writes = same_still old new reference tag writes.3

  pub writes_on : (now : Option PolicyView) (row : ℕ) (word : List ℕ) →
      WritesFor old new tag row word → now ≡ was →
      WritesOn (view_of_lent old reference) (view_of_lent new reference) (StandsFor old was)
      (StandsFor new now) tag row word
  writes_on now row word writes same = λ start contents of stood is_word.
      let after : StandsFor new now start contents =
      subst (λ (view : Option PolicyView). StandsFor new view start contents) (sym same)
      (writes was start contents stood is_word) in
      (is_of_standing new reference now start contents after, after)

  pub age_makes : (die sb amount : ℕ) (answer : AgeAnswer) →
      steps.Ages old new tag die sb amount answer →
      MakesAge tag die sb amount old.past answer new.past
  age_makes die sb amount age.Aged ages = ages.past_is
  age_makes die sb amount (age.DieFault failed) ages = (ages.0, ages.1.past_is)

  pub age_keeps : (die sb amount : ℕ) (answer : AgeAnswer) →
      steps.Ages old new tag die sb amount answer →
      SameCaller (view_of_lent old reference) (view_of_lent new reference)
  age_keeps die sb amount age.Aged ages = same_drive old new reference tag ages.same_drive
  age_keeps die sb amount (age.DieFault failed) ages =
      same_drive old new reference tag ages.1.same_drive

  -- a sense, of a place at a level for a look
  module _ (at : ℕ) (place : Place) (level : ℤ) (before bits : List ℕ) where
    sense_adds : (answer : SenseAnswer) → steps.Senses old new tag at place level answer →
        new.past ≡ entry_of tag (kind_of_sense at place level answer) ∷ old.past
    sense_adds sense.Sensed senses = senses.past_is
    sense_adds (sense.DieFault die) senses = senses.1.past_is

    pub sense_keeps : (answer : SenseAnswer) → steps.Senses old new tag at place level answer →
        SameCaller (view_of_lent old reference) (view_of_lent new reference)
    sense_keeps sense.Sensed senses = same_drive old new reference tag senses.same_drive
    sense_keeps (sense.DieFault die) senses = same_drive old new reference tag senses.1.same_drive

    sense_fails : (answer : SenseAnswer) → steps.Senses old new tag at place level answer →
        steps.GivesBits old place level before bits answer → FailsAt place before bits answer
    sense_fails sense.Sensed senses gives = tt
    sense_fails (sense.DieFault die) senses gives = (senses.0, gives)

    gives_bits : (answer : SenseAnswer) (start : Start) (contents : List (Tag × List ℕ)) →
        steps.AreSensed start contents old place level bits answer →
        GivesBits start contents old.past place level bits answer
    gives_bits sense.Sensed start contents is = is
    gives_bits (sense.DieFault die) start contents is = tt

    pub senses_alone : (now : Option PolicyView) (answer : SenseAnswer) →
        steps.Senses old new tag at place level answer →
        steps.GivesBits old place level before bits answer →
        steps.SensesFor old new at place level bits answer → now ≡ was →
        Senses (view_of_lent old reference) (view_of_lent new reference) (StandsFor old was)
        (StandsFor new now) tag at place level before bits answer
    senses_alone now answer senses gives stands same = record {
      now = old.past;
      comes = comes_alone old reference tag;
      seen_is = sense_adds answer senses;
      fails = sense_fails answer senses gives;
      goes_on = λ start contents of stood asked.
          let after = stands was start contents stood asked in
          let stood_now : StandsFor new now start contents =
          subst (λ (view : Option PolicyView). StandsFor new view start contents) (sym same)
          after.1 in (
            record { look_stays = refl; sensed_stays = refl },
            gives_bits answer start contents
                after.0,
            is_of_standing new reference now start contents stood_now,
            stood_now,
          );
    }

  pub leaves_alone : (now : Option PolicyView) (at : ℕ) →
      AddsEntry old new tag (Kind.Leave at) → steps.LeavesFor old new at → now ≡ was →
      Leaves (view_of_lent old reference) (view_of_lent new reference) (StandsFor old was)
      (StandsFor new now) tag at
  leaves_alone now at adds leaves same = record {
    now = old.past;
    comes = comes_alone old reference tag;
    seen_is = adds.past_is;
    goes_on = λ start contents of stood may.
        let after : StandsFor new now start contents =
        subst (λ (view : Option PolicyView). StandsFor new view start contents) (sym same)
        (leaves was start contents stood may) in (
          record { look_stays = refl; sensed_stays = refl },
          is_of_standing new reference now start contents after,
          after,
        );
  }
