-- Each step adds one entry of its call, or none.
use Rattle.std.proofs.Common.{◌≡◌, ℕ, List, [], ◌∷◌, ◌++◌, length, false, true, refl, ap, subst, ◌∙◌, Option, None, inl, inr}
use Rattle.std.specs.Prelude.{◌⊎◌, Result, Ok, Err, ℤ}
use Rattle.chan_calls.specs.Caller.{CallerView, Comes}
use Rattle.chan_calls.specs.Collecting.{MakesErase, MakesLive, MakesNote, MakesPick}
use Rattle.chan_calls.specs.Moving.{Condemns, MakesCondemn, MakesMove, Moves}
use Rattle.chan_calls.specs.Sensing.{Leaves, Senses, kind_of_sense}
use Rattle.chan_calls.specs.Stepping.{BaseFact, IsStepped, MakesAge, MakesLook, MakesTrim, MakesWrite, Standing}
use Rattle.chan_state.specs.declared.answers.AgeAnswer.{AgeAnswer}
use Rattle.chan_state.specs.declared.answers.AgeAnswer.TheVariants as age
use Rattle.chan_state.specs.declared.answers.EraseAnswer.{EraseAnswer}
use Rattle.chan_state.specs.declared.answers.EraseAnswer.TheVariants as erase
use Rattle.chan_state.specs.declared.answers.MoveAnswer.{MoveAnswer}
use Rattle.chan_state.specs.declared.answers.MoveAnswer.TheVariants as move
use Rattle.chan_state.specs.declared.answers.PickAnswer.{PickAnswer}
use Rattle.chan_state.specs.declared.answers.PickAnswer.TheVariants as pick
use Rattle.chan_state.specs.declared.answers.SenseAnswer.{SenseAnswer}
use Rattle.chan_state.specs.declared.answers.WriteAnswer.{WriteAnswer}
use Rattle.chan_state.specs.declared.answers.WriteAnswer.TheVariants as write
use Rattle.chan_tables.specs.declared.answers.CondemnAnswer.{CondemnAnswer}
use Rattle.chan_tables.specs.declared.answers.CondemnAnswer.TheVariants as condemn
use Rattle.chan_tables.specs.declared.answers.LiveAnswer.{LiveAnswer}
use Rattle.chan_tables.specs.declared.answers.LiveAnswer.TheVariants as live
use Rattle.chan_tables.specs.declared.answers.LookAnswer.{LookAnswer}
use Rattle.chan_tables.specs.declared.answers.LookAnswer.TheVariants as look
use Rattle.chan_tables.specs.declared.answers.Note.{Note}
use Rattle.ssd_geo.specs.declared.entry.Entry.{Entry}
use Rattle.ssd_geo.specs.declared.kind.Kind.{Kind}
use Rattle.ssd_geo.specs.declared.place.Place.{Place}
use Rattle.ssd_geo.specs.declared.row.Row.{Row}
use Rattle.ssd_geo.specs.declared.shape.Shape.{Shape}
use Rattle.ssd_geo.specs.declared.stop.StepStop.{StepStop}
use Rattle.ssd_geo.specs.declared.tag.Tag.{Tag}
use Rattle.ssd_histories.specs.SerialCalls.{entry_of}

-- a past has one entry more of a call, or none
abbrev pub AddsOne : Tag → List Entry → List Entry → Type 0
AddsOne tag now seen = (seen ≡ now) ⊎ ((kind : Kind) × (seen ≡ entry_of tag kind ∷ now))

one : (tag : Tag) (now seen : List Entry) (kind : Kind) → seen ≡ entry_of tag kind ∷ now → AddsOne tag now seen
one tag now seen kind is = inr (kind, is)

module _ (tag : Tag) where
  pub look_adds : (shape : Shape) (row : ℕ) (now : List Entry) (answer : LookAnswer) (seen : List Entry) →
      MakesLook shape tag row now answer seen → AddsOne tag now seen
  look_adds shape row now look.Empty seen made = one tag now seen (Kind.Look row Row.Empty false) made
  look_adds shape row now look.Lost seen made = one tag now seen (Kind.Look row Row.Lost false) made
  look_adds shape row now (look.Found found) seen made =
      one tag now seen (Kind.Look row (Row.Page found.slot found.serial) found.closed) made.3

  pub write_adds : (of_each : BaseFact → Type 0) (row : ℕ) (now : List Entry) (answer : WriteAnswer) (seen : List Entry) →
      MakesWrite of_each tag row now answer seen → AddsOne tag now seen
  write_adds of_each row now (write.Written slot) seen made = one tag now seen (Kind.Write row slot) made.0
  write_adds of_each row now (write.Failed sb) seen made = one tag now seen (Kind.BadWrite row made.0 made.1 false) made.3
  write_adds of_each row now (write.DieFault die) seen made = one tag now seen (Kind.BadWrite row made.0 die true) made.1
  write_adds of_each row now write.ReadOnly seen made = one tag now seen (Kind.Refused row true) made.0
  write_adds of_each row now write.Full seen made = one tag now seen (Kind.Refused row false) made.0
  write_adds of_each row now write.NeedRoom seen made = inl made.0

  pub trim_adds : (row : ℕ) (now : List Entry) (answer : Unit {0}) (seen : List Entry) → MakesTrim tag row now answer seen →
      AddsOne tag now seen
  trim_adds row now answer seen made = one tag now seen (Kind.Trim row) made

  pub age_adds : (die sb amount : ℕ) (now : List Entry) (answer : AgeAnswer) (seen : List Entry) →
      MakesAge tag die sb amount now answer seen → AddsOne tag now seen
  age_adds die sb amount now age.Aged seen made = one tag now seen (Kind.Age die sb amount) made
  age_adds die sb amount now (age.DieFault failed) seen made = one tag now seen (Kind.FaultAge die sb amount) made.1

  pub pick_adds : (of_each : BaseFact → Type 0) (now : List Entry) (answer : PickAnswer) (seen : List Entry) →
      MakesPick of_each tag now answer seen → AddsOne tag now seen
  pick_adds of_each now (pick.Busy sb) seen made = inl made.0
  pick_adds of_each now pick.ReadOnly seen made = inl made.0
  pick_adds of_each now pick.NoGarbage seen made = inl made.0
  pick_adds of_each now (pick.Picked sb) seen made = one tag now seen (Kind.Pick sb) made.0

  pub live_adds : (of_each : BaseFact → Type 0) (shape : Shape) (sb : ℕ) (now : List Entry) (answer : LiveAnswer) (seen :
      List Entry) →
      MakesLive of_each shape tag sb now answer seen → AddsOne tag now seen
  live_adds of_each shape sb now live.NotVictim seen made = inl made.0
  live_adds of_each shape sb now live.NoneLive seen made = inl made.0
  live_adds of_each shape sb now (live.Found found) seen made = look_adds shape found.row now (look.Found found) seen made.0

  pub erase_adds : (of_each : BaseFact → Type 0) (sb : ℕ) (now : List Entry) (answer : EraseAnswer) (seen : List Entry) →
      MakesErase of_each tag sb now answer seen → AddsOne tag now seen
  erase_adds of_each sb now erase.NotVictim seen made = inl made.0
  erase_adds of_each sb now (erase.Live count) seen made = inl made.0
  erase_adds of_each sb now (erase.Pinned count) seen made = inl made.0
  erase_adds of_each sb now erase.Erased seen made = one tag now seen (Kind.Erase sb) made.0
  erase_adds of_each sb now (erase.FailedErase die) seen made = one tag now seen (Kind.BadErase sb die false) made.0
  erase_adds of_each sb now (erase.DieFault die) seen made = one tag now seen (Kind.BadErase sb die true) made.0

  pub note_adds : (now : List Entry) (note : Note) (seen : List Entry) → MakesNote tag now note seen → AddsOne tag now seen
  note_adds now note seen made = one tag now seen (Kind.Note note.free note.victim note.live note.pins note.garbage) made

  move_adds : (at : ℕ) (now : List Entry) (answer : MoveAnswer) (seen : List Entry) → MakesMove tag at now answer seen →
      AddsOne tag now seen
  move_adds at now (move.Changed row) seen made = one tag now seen (Kind.Changed at row) made
  move_adds at now move.ReadOnly seen made = one tag now seen (Kind.Stay at true) made
  move_adds at now move.NoRoom seen made = one tag now seen (Kind.Stay at false) made
  move_adds at now (move.Moved slot) seen made = one tag now seen (Kind.Move at slot) made
  move_adds at now (move.Failed sb) seen made = one tag now seen (Kind.BadCopy at made.0 made.1 false) made.3
  move_adds at now (move.DieFault die) seen made = one tag now seen (Kind.BadCopy at made.0 die true) made.1

  condemn_adds : (at : ℕ) (now : List Entry) (answer : CondemnAnswer) (seen : List Entry) → MakesCondemn tag at now answer
      seen →
      AddsOne tag now seen
  condemn_adds at now (condemn.Changed row) seen made = one tag now seen (Kind.Changed at row) made
  condemn_adds at now condemn.Condemned seen made = one tag now seen (Kind.Condemn at) made

  -- where the caller is alone the step finds what it had seen
  module _ (caller after : CallerView) (alone : caller.number ≡ None) where
    found : (now : List Entry) → Comes caller tag now → now ≡ caller.seen
    found now comes = comes.now_is ∙ ap {B = List Entry} (λ (others : List Entry). others ++ caller.seen) (comes.none_alone
        alone)

    found_one : (now : List Entry) → Comes caller tag now → AddsOne tag now after.seen → AddsOne tag caller.seen after.seen
    found_one now comes adds = subst (λ (past : List Entry). AddsOne tag past after.seen) (found now comes) adds

    pub step_adds : {A : Type 0} (has_room : ℕ → List Entry → Type 0) (makes : List Entry → A → List Entry → Type 0) →
        ((now : List Entry) (answer : A) (seen : List Entry) → makes now answer seen → AddsOne tag now seen) →
        (result : Result A StepStop) → IsStepped has_room makes tag caller after result → AddsOne tag caller.seen after.seen
    step_adds has_room makes adds (Ok answer) step = found_one step.0 step.1 (adds step.0 answer after.seen step.3)
    step_adds has_room makes adds (Err (StepStop.HistoryFull told)) step = found_one step.0 step.1 (inl step.4)
    step_adds has_room makes adds (Err StepStop.Memory) step = found_one step.0 step.1 (inl step.3)

    pub sense_adds : (stood stands : Standing) (at : ℕ) (place : Place) (level : ℤ) (before bits : List ℕ) (answer :
        SenseAnswer) →
        Senses caller after stood stands tag at place level before bits answer → AddsOne tag caller.seen after.seen
    sense_adds stood stands at place level before bits answer told =
        found_one told.now told.comes (one tag told.now after.seen (kind_of_sense at place level answer) told.seen_is)

    pub leave_adds : (stood stands : Standing) (at : ℕ) → Leaves caller after stood stands tag at → AddsOne tag caller.seen
        after.seen
    leave_adds stood stands at told = found_one told.now told.comes (one tag told.now after.seen (Kind.Leave at) told.seen_is)

    pub moves_add : (stood stands : Standing) (at : ℕ) (word : List ℕ) (answer : MoveAnswer) →
        Moves caller after stood stands tag at word answer → AddsOne tag caller.seen after.seen
    moves_add stood stands at word answer told =
        found_one told.now told.comes (move_adds at told.now answer after.seen told.made)

    pub condemns_add : (stood stands : Standing) (at : ℕ) (answer : CondemnAnswer) →
        Condemns caller after stood stands tag at answer → AddsOne tag caller.seen after.seen
    condemns_add stood stands at answer told =
        found_one told.now told.comes (condemn_adds at told.now answer after.seen told.made)
