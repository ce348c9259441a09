-- The steps of copies and of collections of a caller that is alone.
use Rattle.std.proofs.Common.{◌≡◌, ℕ, ◌<◌, ◌≤◌, List, Option, refl, sym, ap, subst, ◌∙◌, arith}
use Rattle.chan_state.specs.ChannelState.{ChannelState, StandsFor}
use Rattle.chan_state.specs.Collecting as tables
use Rattle.chan_state.specs.Condemning.{CondemnsFor}
use Rattle.chan_state.specs.Copying as copies
use Rattle.chan_state.specs.Copying.{MovesFor}
use Rattle.chan_state.specs.Noting.{Notes}
use Rattle.chan_state.specs.Steps.{AddsEntry}
use Rattle.chan_state.specs.declared.answers.EraseAnswer.{EraseAnswer}
use Rattle.chan_state.specs.declared.answers.EraseAnswer.TheVariants as erase
use Rattle.chan_state.specs.declared.answers.MoveAnswer.{MoveAnswer}
use Rattle.chan_state.specs.declared.answers.MoveAnswer.TheVariants as move
use Rattle.chan_state.specs.declared.answers.PickAnswer.{PickAnswer}
use Rattle.chan_state.specs.declared.answers.PickAnswer.TheVariants.{Busy, NoGarbage, Picked, ReadOnly}
use Rattle.chan_tables.specs.Condemning.{kind_of_condemn}
use Rattle.chan_tables.specs.declared.answers.CondemnAnswer.{CondemnAnswer}
use Rattle.chan_tables.specs.declared.answers.CondemnAnswer.TheVariants as condemn
use Rattle.chan_tables.specs.declared.answers.LiveAnswer.{LiveAnswer}
use Rattle.chan_tables.specs.declared.answers.LiveAnswer.TheVariants as live
use Rattle.chan_tables.specs.declared.answers.LookAnswer.TheVariants as looks
use Rattle.chan_tables.specs.declared.answers.Note.{Note}
use Rattle.ssd_histories.specs.PageMap.{first_live_in}
use Rattle.ssd_geo.specs.declared.policy_view.PolicyView.{PolicyView}
use Rattle.ssd_geo.specs.declared.row.Row.{Row}
use Rattle.ssd_geo.specs.declared.tag.Tag.{Tag}
use Rattle.chan_calls.specs.Alone.{view_of_lent}
use Rattle.chan_calls.specs.Caller.{SameCaller}
use Rattle.chan_calls.specs.Collecting.{MakesErase, MakesLive, MakesNote, MakesPick}
use Rattle.chan_calls.specs.Moving.{Condemns, MakesCondemn, MakesMove, Moves}
use Rattle.chan_calls.specs.Stepping.{OfEachBase}
use Rattle.chan_calls.proofs.AloneHosts.{look_keeps, look_makes}
use Rattle.chan_calls.proofs.AloneSteps.{comes_alone, is_of_standing, past_still, same_drive, same_still}
use Rattle.chan_calls.proofs.AloneTables.{free_is, garbage_is, live_is, may_erase_of, may_pick_now, of_each, pins_are, victim_is}

positive : (n : ℕ) → 1 ≤ n → 0 < n
positive n h = omega arith

module _ (old new : ChannelState) (was : Option PolicyView) (reference : ℕ) (tag : Tag) where
  move_makes : (at : ℕ) (answer : MoveAnswer) → copies.Moves old new tag at answer →
      MakesMove tag at old.past answer new.past
  move_makes at (move.Changed row) moves = moves.past_is
  move_makes at move.ReadOnly moves = moves.past_is
  move_makes at move.NoRoom moves = moves.past_is
  move_makes at (move.Moved slot) moves = moves.past_is
  move_makes at (move.Failed sb) moves =
      (moves.slot, moves.die, moves.sb_is, moves.fails.entry.past_is)
  move_makes at (move.DieFault die) moves = (moves.slot, moves.fails.entry.past_is)

  pub move_keeps : (at : ℕ) (answer : MoveAnswer) → copies.Moves old new tag at answer →
      SameCaller (view_of_lent old reference) (view_of_lent new reference)
  move_keeps at (move.Changed row) moves = same_drive old new reference tag moves.same_drive
  move_keeps at move.ReadOnly moves = same_drive old new reference tag moves.same_drive
  move_keeps at move.NoRoom moves = same_drive old new reference tag moves.same_drive
  move_keeps at (move.Moved slot) moves = same_drive old new reference tag moves.same_drive
  move_keeps at (move.Failed sb) moves =
      same_drive old new reference tag moves.fails.entry.same_drive
  move_keeps at (move.DieFault die) moves =
      same_drive old new reference tag moves.fails.entry.same_drive

  pub moves_alone : (now : Option PolicyView) (at : ℕ) (word : List ℕ) (answer : MoveAnswer) →
      copies.Moves old new tag at answer → MovesFor old new at word → now ≡ was →
      Moves (view_of_lent old reference) (view_of_lent new reference) (StandsFor old was)
      (StandsFor new now) tag at word answer
  moves_alone now at word answer moves stands same = record {
    now = old.past;
    comes = comes_alone old reference tag;
    made = move_makes at answer moves;
    goes_on = λ start contents of stood recovers.
        let after : StandsFor new now start contents =
        subst (λ (view : Option PolicyView). StandsFor new view start contents) (sym same)
        (stands was start contents stood recovers.0 recovers.1) in (
          record { look_stays = refl; sensed_stays = refl },
          is_of_standing new reference now start contents after,
          after,
        );
  }

  condemn_makes : (at : ℕ) (answer : CondemnAnswer) →
      AddsEntry old new tag (kind_of_condemn at answer) →
      MakesCondemn tag at old.past answer new.past
  condemn_makes at (condemn.Changed row) adds = adds.past_is
  condemn_makes at condemn.Condemned adds = adds.past_is

  pub condemns_alone : (now : Option PolicyView) (at : ℕ) (answer : CondemnAnswer) →
      AddsEntry old new tag (kind_of_condemn at answer) → CondemnsFor old new at → now ≡ was →
      Condemns (view_of_lent old reference) (view_of_lent new reference) (StandsFor old was)
      (StandsFor new now) tag at answer
  condemns_alone now at answer adds stands same = record {
    now = old.past;
    comes = comes_alone old reference tag;
    made = condemn_makes at answer adds;
    goes_on = λ start contents of stood is.
        let after : StandsFor new now start contents =
        subst (λ (view : Option PolicyView). StandsFor new view start contents) (sym same)
        (stands was start contents stood is) in (
          record { look_stays = refl; sensed_stays = refl },
          is_of_standing new reference now start contents after,
          after,
        );
  }

  pub pick_makes : (answer : PickAnswer) → tables.Picks old new tag answer →
      MakesPick (OfEachBase (view_of_lent old reference) (StandsFor old was)) tag old.past answer
      new.past
  pick_makes (Busy sb) picks = (
    past_still old new reference tag picks.1,
    of_each old was reference _
        (λ start contents stands. sym (victim_is old was start contents stands) ∙ picks.0),
  )
  pick_makes ReadOnly picks = (
    past_still old new reference tag picks.2,
    of_each old was reference _
        (λ start contents stands. (
          sym (victim_is old was start contents stands) ∙ picks.0,
          sym (free_is old was start contents stands) ∙ picks.1,
        )),
  )
  pick_makes NoGarbage picks = (
    past_still old new reference tag picks.3,
    of_each old was reference _
        (λ start contents stands. (
          sym (victim_is old was start contents stands) ∙ picks.0,
          subst (λ (n : ℕ). 0 < n) (free_is old was start contents stands) (positive _ picks.1),
          sym (garbage_is old was start contents stands) ∙ picks.2,
        )),
  )
  pick_makes (Picked sb) picks = (
    picks.3.past_is,
    of_each old was reference _ (λ start contents stands.
        may_pick_now old was start contents stands sb picks.0 (positive _ picks.1) picks.2),
  )

  pub pick_keeps : (answer : PickAnswer) → tables.Picks old new tag answer →
      SameCaller (view_of_lent old reference) (view_of_lent new reference)
  pick_keeps (Busy sb) picks = same_still old new reference tag picks.1
  pick_keeps ReadOnly picks = same_still old new reference tag picks.2
  pick_keeps NoGarbage picks = same_still old new reference tag picks.3
  pick_keeps (Picked sb) picks = same_drive old new reference tag picks.3.same_drive

  pub live_makes : (sb : ℕ) (answer : LiveAnswer) → tables.LooksLive old new tag sb answer →
      MakesLive (OfEachBase (view_of_lent old reference) (StandsFor old was)) old.shape tag sb
      old.past answer new.past
  live_makes sb live.NotVictim found = (
    past_still old new reference tag found.1,
    of_each old was reference _
        (λ start contents stands. λ is. found.0 (victim_is old was start contents stands ∙ is)),
  )
  live_makes sb live.NoneLive found = (
    past_still old new reference tag found.2,
    of_each old was reference _
        (λ start contents stands. (
          sym (victim_is old was start contents stands) ∙ found.0,
          sym (live_is old was start contents stands sb) ∙ found.1,
        )),
  )
  live_makes sb (live.Found look) found = (
    look_makes old new was reference tag look.row (looks.Found look) found.2,
    of_each old was reference _ (λ start contents stands. (
      sym (victim_is old was start contents stands) ∙ found.0,
      ap (λ (rows : List Row). first_live_in rows sb) (sym stands.rows_are) ∙ found.1,
    )),
  )

  pub live_keeps : (sb : ℕ) (answer : LiveAnswer) → tables.LooksLive old new tag sb answer →
      SameCaller (view_of_lent old reference) (view_of_lent new reference)
  live_keeps sb live.NotVictim found = same_still old new reference tag found.1
  live_keeps sb live.NoneLive found = same_still old new reference tag found.2
  live_keeps sb (live.Found look) found =
      look_keeps old new was reference tag look.row (looks.Found look) found.2

  pub erase_makes : (sb : ℕ) (answer : EraseAnswer) → tables.Erases old new tag sb answer →
      MakesErase (OfEachBase (view_of_lent old reference) (StandsFor old was)) tag sb old.past
      answer new.past
  erase_makes sb erase.NotVictim erases = (
    past_still old new reference tag erases.1,
    of_each old was reference _
        (λ start contents stands. λ is. erases.0 (victim_is old was start contents stands ∙ is)),
  )
  erase_makes sb (erase.Live count) erases = (
    past_still old new reference tag erases.3,
    erases.2,
    of_each old was reference _
        (λ start contents stands. (
          sym (victim_is old was start contents stands) ∙ erases.0,
          erases.1 ∙ live_is old was start contents stands sb,
        )),
  )
  erase_makes sb (erase.Pinned count) erases = (
    past_still old new reference tag erases.4,
    erases.3,
    of_each old was reference _
        (λ start contents stands. (
          sym (victim_is old was start contents stands) ∙ erases.0,
          sym (live_is old was start contents stands sb) ∙ erases.1,
          erases.2 ∙ pins_are old was start contents stands sb,
        )),
  )
  erase_makes sb erase.Erased erases = (
    erases.1.past_is,
    of_each old was reference _ (λ start contents stands.
        may_erase_of old was start contents stands sb erases.0),
  )
  erase_makes sb (erase.FailedErase die) erases = (
    erases.2.past_is,
    of_each old was reference _ (λ start contents stands.
        may_erase_of old was start contents stands sb erases.0),
  )
  erase_makes sb (erase.DieFault die) erases = (
    erases.2.past_is,
    of_each old was reference _ (λ start contents stands.
        may_erase_of old was start contents stands sb erases.0),
  )

  pub erase_keeps : (sb : ℕ) (answer : EraseAnswer) → tables.Erases old new tag sb answer →
      SameCaller (view_of_lent old reference) (view_of_lent new reference)
  erase_keeps sb erase.NotVictim erases = same_still old new reference tag erases.1
  erase_keeps sb (erase.Live count) erases = same_still old new reference tag erases.3
  erase_keeps sb (erase.Pinned count) erases = same_still old new reference tag erases.4
  erase_keeps sb erase.Erased erases = same_drive old new reference tag erases.1.same_drive
  erase_keeps sb (erase.FailedErase die) erases =
      same_drive old new reference tag erases.2.same_drive
  erase_keeps sb (erase.DieFault die) erases =
      same_drive old new reference tag erases.2.same_drive

  pub note_makes : (note : Note) → Notes old new tag note → MakesNote tag old.past note new.past
  note_makes note notes = notes.1.past_is

  pub note_keeps : (note : Note) → Notes old new tag note →
      SameCaller (view_of_lent old reference) (view_of_lent new reference)
  note_keeps note notes = same_drive old new reference tag notes.1.same_drive
