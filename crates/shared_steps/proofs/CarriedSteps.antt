-- What a step tells one caller, which is alone, it tells another for whom it is made: that one had seen a beginning of what
-- the first has seen, and both speak of the same starts and contents.
use Rattle.std.proofs.Common.{◌≡◌, ℕ, ◌<◌, ◌≤◌, ◌+◌, Bool, true, false, List, [], ◌∷◌, ◌++◌, length, refl, sym, ap, subst, ◌∙◌, Option, None, Some}
use Rattle.std.specs.Prelude.{◌||◌, IsFalse, IsSome, IsTrue, Result, Ok, Err, ℤ}
use Rattle.chan_calls.proofs.SensedLooks.{ladder_stays}
use Rattle.chan_calls.specs.Caller.{CallerView, Comes, HasLookRoom, HasStepRoom, IsOf, IsOwn, LookStays, own_look}
use Rattle.chan_calls.specs.Collecting.{MakesErase, MakesLive, MakesNote, MakesPick}
use Rattle.chan_calls.specs.Moving.{Condemns, GoesOnFrom, MakesCondemn, MakesMove, MayCondemn, MayMove, Moves, IsRecoveredAs}
use Rattle.chan_calls.specs.Sensing.{GivesBits, Leaves, MaySense, Senses, kind_of_sense}
use Rattle.chan_calls.specs.Stepping.{GoesOn, IsStepped, MakesAge, MakesLook, MakesTrim, MakesWrite, OfEachBase, Standing, WritesOn}
use Rattle.chan_state.specs.declared.answers.AgeAnswer.{AgeAnswer}
use Rattle.chan_state.specs.declared.answers.EraseAnswer.{EraseAnswer}
use Rattle.chan_state.specs.declared.answers.EraseAnswer.TheVariants as erase
use Rattle.chan_state.specs.declared.answers.MoveAnswer.{MoveAnswer}
use Rattle.chan_state.specs.declared.answers.PickAnswer.{PickAnswer}
use Rattle.chan_state.specs.declared.answers.PickAnswer.TheVariants as pick
use Rattle.chan_state.specs.declared.answers.SenseAnswer.{SenseAnswer}
use Rattle.chan_state.specs.declared.answers.WriteAnswer.{WriteAnswer}
use Rattle.chan_state.specs.declared.answers.WriteAnswer.TheVariants as write
use Rattle.chan_state.specs.Steps.{IsWordOf}
use Rattle.chan_tables.specs.declared.answers.CondemnAnswer.{CondemnAnswer}
use Rattle.chan_tables.specs.declared.answers.LiveAnswer.{LiveAnswer}
use Rattle.chan_tables.specs.declared.answers.LiveAnswer.TheVariants as live
use Rattle.chan_tables.specs.declared.answers.LookAnswer.{LookAnswer}
use Rattle.chan_tables.specs.declared.answers.LookAnswer.TheVariants.{Found}
use Rattle.chan_tables.specs.declared.answers.Note.{Note}
use Rattle.ssd_geo.specs.Coding.{coding_of}
use Rattle.ssd_geo.specs.Ladder.{LadderState, asks, has_answer, uncorrectable}
use Rattle.ssd_geo.specs.declared.entry.Entry.{Entry}
use Rattle.ssd_geo.specs.declared.kind.Kind.{Kind}
use Rattle.ssd_geo.specs.declared.look.Look.{Look}
use Rattle.ssd_geo.specs.declared.place.Place.{Place}
use Rattle.ssd_geo.specs.declared.shape.Shape.{Shape}
use Rattle.ssd_geo.specs.declared.stop.StepStop.{StepStop}
use Rattle.ssd_geo.specs.declared.tag.Tag.{Tag}
use Rattle.ssd_histories.specs.Lawful.{has_fault_sense}
use Rattle.ssd_histories.specs.PastPages.{ladder_of}
use Rattle.ssd_histories.specs.SerialCalls.{entry_of}
use Rattle.ssd_histories.specs.Start.{Start}

-- one caller makes a step for another
pub record StepsFor (outer inner : CallerView) (stood stood_in : Standing) (tag : Tag) : Type 0 where
  pub limit_is : inner.limit ≡ outer.limit
  pub shape_is : inner.shape ≡ outer.shape
  pub comes : Comes outer tag inner.seen
  pub alone : inner.number ≡ None
  pub reaches : (start : Start) (contents : List (Tag × List ℕ)) → stood start contents → IsOf inner start contents ×
      stood_in start contents
  pub looks : (start : Start) (contents : List (Tag × List ℕ)) → stood start contents → (at : ℕ) → IsSome (own_look tag
      outer.seen at) →
      LookStays start contents outer.seen inner.seen at

-- and has made it
pub record ReturnsTo (outer inner : CallerView) (stood stands stands_in : Standing) : Type 0 where
  pub seen_is : outer.seen ≡ inner.seen
  pub returns : (start : Start) (contents : List (Tag × List ℕ)) → stood start contents → IsOf inner start contents →
      stands_in start contents → IsOf outer start contents × stands start contents

-- what may be asked of the one may be asked of the other
module _ (outer inner : CallerView) (stood stood_in : Standing) (tag : Tag) (made_for : StepsFor outer inner stood stood_in
    tag) where
  pub still_own : (at : ℕ) → IsOwn outer tag at → IsOwn inner tag at
  still_own at own = subst (λ (option : Option Look). IsSome option) (sym (made_for.comes.looks_stay at)) own

  pub still_sense : (at : ℕ) → MaySense outer tag at → MaySense inner tag at
  still_sense at may = record {
    is_open = still_own at may.is_open;
    few = subst (λ (n : ℕ). n < 168) (sym (made_for.comes.senses_stay at may.is_open)) may.few;
    no_fault = made_for.comes.faults_stay at may.is_open ∙ may.no_fault;
  }

  pub still_move : (at : ℕ) → MayMove outer tag at → MayMove inner tag at
  still_move at may = record {
    is_open = still_own at may.is_open;
    not_recovered = made_for.comes.recovered_stay at may.is_open ∙ may.not_recovered;
    not_uncorrectable = made_for.comes.uncorrectable_stay at may.is_open ∙ may.not_uncorrectable;
  }

  pub still_condemn : (at : ℕ) → MayCondemn outer tag at → MayCondemn inner tag at
  still_condemn at may = record {
    is_open = still_own at may.is_open;
    not_uncorrectable = made_for.comes.uncorrectable_stay at may.is_open ∙ may.not_uncorrectable;
  }

  pub still_come : (fact : LadderState → Type 0) (start : Start) (contents : List (Tag × List ℕ)) → stood start contents →
      (at : ℕ) →
      IsOwn outer tag at → fact (ladder_of (coding_of start.base) start contents outer.seen at) →
      fact (ladder_of (coding_of start.base) start contents inner.seen at)
  still_come fact start contents stands at own come =
      subst fact (sym (ladder_stays start contents outer.seen inner.seen at (made_for.looks start contents stands at own)))
      come

  pub still_leave : (start : Start) (contents : List (Tag × List ℕ)) → stood start contents → (at : ℕ) → IsOwn outer tag at →
      IsTrue (has_answer (ladder_of (coding_of start.base) start contents outer.seen at) || has_fault_sense outer.seen at) →
      IsTrue (has_answer (ladder_of (coding_of start.base) start contents inner.seen at) || has_fault_sense inner.seen at)
  still_leave start contents stands at own may =
      subst (λ (fault : Bool). IsTrue (has_answer (ladder_of (coding_of start.base) start contents inner.seen at) || fault))
      (sym (made_for.comes.faults_stay at own))
      (still_come (λ (state : LadderState). IsTrue (has_answer state || has_fault_sense outer.seen at)) start contents stands
      at own may)

-- and what is told
module _ (outer inner after inner_after : CallerView) (stood stood_in stands stands_in : Standing) (tag : Tag)
    (made_for : StepsFor outer inner stood stood_in tag) (back : ReturnsTo after inner_after stood stands stands_in) where
  still : (now : List Entry) → Comes inner tag now → now ≡ inner.seen
  still now comes = comes.now_is ∙ ap {B = List Entry} (λ (others : List Entry). others ++ inner.seen) (comes.none_alone
      made_for.alone)

  each : (fact : Start → Type 0) →
      ((start : Start) (contents : List (Tag × List ℕ)) → IsOf inner start contents → stood_in start contents → fact start) →
      (start : Start) (contents : List (Tag × List ℕ)) → IsOf outer start contents → stood start contents → fact start
  each fact told start contents of now = let there = made_for.reaches start contents now in told start contents there.0
      there.1

  pub goes_on : GoesOn inner inner_after stood_in stands_in → GoesOn outer after stood stands
  goes_on goes start contents of now =
      let there = made_for.reaches start contents now in
      let later = goes start contents there.0 there.1 in back.returns start contents now later.0 later.1

  pub writes_on : (row : ℕ) (word : List ℕ) → WritesOn inner inner_after stood_in stands_in tag row word →
      WritesOn outer after stood stands tag row word
  writes_on row word goes start contents of now is_word =
      let there = made_for.reaches start contents now in
      let later = goes start contents there.0 there.1 is_word in back.returns start contents now later.0 later.1

  made_step : {A : Type 0} (has_room : ℕ → List Entry → Type 0) (makes makes_for : List Entry → A → List Entry → Type 0) →
      ((now : List Entry) (answer : A) (seen : List Entry) → makes now answer seen → makes_for now answer seen) →
      (result : Result A StepStop) → IsStepped has_room makes tag inner inner_after result →
      IsStepped has_room makes_for tag outer after result
  made_step has_room makes makes_for carry (Ok answer) step = (
    inner.seen,
    made_for.comes,
    subst (λ (limit : ℕ). has_room limit inner.seen) made_for.limit_is (subst (has_room inner.limit) (still step.0 step.1)
        step.2),
    subst (makes_for inner.seen answer) (sym back.seen_is) (carry inner.seen answer inner_after.seen
        (subst (λ (now : List Entry). makes now answer inner_after.seen) (still step.0 step.1) step.3)),
  )
  made_step has_room makes makes_for carry (Err (StepStop.HistoryFull told)) step = (
    inner.seen,
    made_for.comes,
    λ room. step.2 (subst (has_room inner.limit) (sym (still step.0 step.1))
        (subst (λ (limit : ℕ). has_room limit inner.seen) (sym made_for.limit_is) room)),
    step.3 ∙ ap {B = ℕ} (λ (now : List Entry). length now) (still step.0 step.1),
    back.seen_is ∙ (step.4 ∙ still step.0 step.1),
  )
  made_step has_room makes makes_for carry (Err StepStop.Memory) step = (
    inner.seen,
    made_for.comes,
    subst (λ (limit : ℕ). has_room limit inner.seen) made_for.limit_is (subst (has_room inner.limit) (still step.0 step.1)
        step.2),
    back.seen_is ∙ (step.3 ∙ still step.0 step.1),
  )

  same_makes : {A : Type 0} (makes : List Entry → A → List Entry → Type 0) →
      (now : List Entry) (answer : A) (seen : List Entry) → makes now answer seen → makes now answer seen
  same_makes makes now answer seen made = made

  makes_look : (row : ℕ) (now : List Entry) (answer : LookAnswer) (seen : List Entry) →
      MakesLook inner.shape tag row now answer seen → MakesLook outer.shape tag row now answer seen
  makes_look row now answer seen made = subst (λ (shape : Shape). MakesLook shape tag row now answer seen) made_for.shape_is
      made

  makes_write : (row : ℕ) (now : List Entry) (answer : WriteAnswer) (seen : List Entry) →
      MakesWrite (OfEachBase inner stood_in) tag row now answer seen → MakesWrite (OfEachBase outer stood) tag row now answer
      seen
  makes_write row now (write.Written slot) seen made = (made.0, each _ made.1)
  makes_write row now (write.Failed sb) seen made = (made.0, made.1, made.2, made.3, each _ made.4)
  makes_write row now (write.DieFault die) seen made = (made.0, made.1, each _ made.2)
  makes_write row now write.ReadOnly seen made = (made.0, each _ made.1)
  makes_write row now write.Full seen made = (made.0, each _ made.1)
  makes_write row now write.NeedRoom seen made = (made.0, each _ made.1)

  makes_pick : (now : List Entry) (answer : PickAnswer) (seen : List Entry) →
      MakesPick (OfEachBase inner stood_in) tag now answer seen → MakesPick (OfEachBase outer stood) tag now answer seen
  makes_pick now (pick.Busy sb) seen made = (made.0, each _ made.1)
  makes_pick now pick.ReadOnly seen made = (made.0, each _ made.1)
  makes_pick now pick.NoGarbage seen made = (made.0, each _ made.1)
  makes_pick now (pick.Picked sb) seen made = (made.0, each _ made.1)

  makes_live : (sb : ℕ) (now : List Entry) (answer : LiveAnswer) (seen : List Entry) →
      MakesLive (OfEachBase inner stood_in) inner.shape tag sb now answer seen →
      MakesLive (OfEachBase outer stood) outer.shape tag sb now answer seen
  makes_live sb now live.NotVictim seen made = (made.0, each _ made.1)
  makes_live sb now live.NoneLive seen made = (made.0, each _ made.1)
  makes_live sb now (live.Found look) seen made = (makes_look look.row now (Found look) seen made.0, each _ made.1)

  makes_erase : (sb : ℕ) (now : List Entry) (answer : EraseAnswer) (seen : List Entry) →
      MakesErase (OfEachBase inner stood_in) tag sb now answer seen → MakesErase (OfEachBase outer stood) tag sb now answer
      seen
  makes_erase sb now erase.NotVictim seen made = (made.0, each _ made.1)
  makes_erase sb now (erase.Live count) seen made = (made.0, made.1, each _ made.2)
  makes_erase sb now (erase.Pinned count) seen made = (made.0, made.1, each _ made.2)
  makes_erase sb now erase.Erased seen made = (made.0, each _ made.1)
  makes_erase sb now (erase.FailedErase die) seen made = (made.0, each _ made.1)
  makes_erase sb now (erase.DieFault die) seen made = (made.0, each _ made.1)

  pub look_step : (row : ℕ) (result : Result LookAnswer StepStop) →
      IsStepped HasLookRoom (MakesLook inner.shape tag row) tag inner inner_after result →
      IsStepped HasLookRoom (MakesLook outer.shape tag row) tag outer after result
  look_step row = made_step HasLookRoom (MakesLook inner.shape tag row) (MakesLook outer.shape tag row) (makes_look row)

  pub write_step : (row : ℕ) (result : Result WriteAnswer StepStop) →
      IsStepped HasStepRoom (MakesWrite (OfEachBase inner stood_in) tag row) tag inner inner_after result →
      IsStepped HasStepRoom (MakesWrite (OfEachBase outer stood) tag row) tag outer after result
  write_step row =
      made_step HasStepRoom (MakesWrite (OfEachBase inner stood_in) tag row) (MakesWrite (OfEachBase outer stood) tag row)
      (makes_write row)

  pub trim_step : (row : ℕ) (result : Result (Unit {0}) StepStop) →
      IsStepped HasStepRoom (MakesTrim tag row) tag inner inner_after result →
      IsStepped HasStepRoom (MakesTrim tag row) tag outer after result
  trim_step row = made_step HasStepRoom (MakesTrim tag row) (MakesTrim tag row) (same_makes (MakesTrim tag row))

  pub pick_step : (result : Result PickAnswer StepStop) →
      IsStepped HasStepRoom (MakesPick (OfEachBase inner stood_in) tag) tag inner inner_after result →
      IsStepped HasStepRoom (MakesPick (OfEachBase outer stood) tag) tag outer after result
  pick_step = made_step HasStepRoom (MakesPick (OfEachBase inner stood_in) tag) (MakesPick (OfEachBase outer stood) tag)
      makes_pick

  pub live_step : (sb : ℕ) (result : Result LiveAnswer StepStop) →
      IsStepped HasLookRoom (MakesLive (OfEachBase inner stood_in) inner.shape tag sb) tag inner inner_after result →
      IsStepped HasLookRoom (MakesLive (OfEachBase outer stood) outer.shape tag sb) tag outer after result
  live_step sb =
      made_step HasLookRoom (MakesLive (OfEachBase inner stood_in) inner.shape tag sb) (MakesLive (OfEachBase outer stood)
      outer.shape tag sb)
      (makes_live sb)

  pub erase_step : (sb : ℕ) (result : Result EraseAnswer StepStop) →
      IsStepped HasStepRoom (MakesErase (OfEachBase inner stood_in) tag sb) tag inner inner_after result →
      IsStepped HasStepRoom (MakesErase (OfEachBase outer stood) tag sb) tag outer after result
  erase_step sb =
      made_step HasStepRoom (MakesErase (OfEachBase inner stood_in) tag sb) (MakesErase (OfEachBase outer stood) tag sb)
      (makes_erase sb)

  pub age_step : (die sb amount : ℕ) (result : Result AgeAnswer StepStop) →
      IsStepped HasStepRoom (MakesAge tag die sb amount) tag inner inner_after result →
      IsStepped HasStepRoom (MakesAge tag die sb amount) tag outer after result
  age_step die sb amount =
      made_step HasStepRoom (MakesAge tag die sb amount) (MakesAge tag die sb amount) (same_makes (MakesAge tag die sb
      amount))

  pub note_step : (result : Result Note StepStop) → IsStepped HasStepRoom (MakesNote tag) tag inner inner_after result →
      IsStepped HasStepRoom (MakesNote tag) tag outer after result
  note_step = made_step HasStepRoom (MakesNote tag) (MakesNote tag) (same_makes (MakesNote tag))

  pub senses : (at : ℕ) (place : Place) (level : ℤ) (before bits : List ℕ) (answer : SenseAnswer) → IsOwn outer tag at →
      Senses inner inner_after stood_in stands_in tag at place level before bits answer →
      Senses outer after stood stands tag at place level before bits answer
  senses at place level before bits answer own told = record {
    now = inner.seen;
    comes = made_for.comes;
    seen_is =
        back.seen_is ∙ (told.seen_is ∙ ap {B = List Entry} (λ (now : List Entry). entry_of tag (kind_of_sense at place level
        answer) ∷ now)
        (still told.now told.comes));
    fails = told.fails;
    goes_on = λ start contents of now asked.
        let there = made_for.reaches start contents now in
        let later = told.goes_on start contents there.0 there.1
        (still_come outer inner stood stood_in tag made_for (λ (state : LadderState). state ≡ asks place level) start
        contents now at own asked) in
        let returned = back.returns start contents now later.2 later.3 in (
          made_for.looks start contents now at own,
          subst (λ (past : List Entry). GivesBits start contents past place level bits answer) (still told.now told.comes)
              later.1,
          returned.0,
          returned.1,
        );
  }

  pub leaves : (at : ℕ) → IsOwn outer tag at → Leaves inner inner_after stood_in stands_in tag at → Leaves outer after stood
      stands tag at
  leaves at own told = record {
    now = inner.seen;
    comes = made_for.comes;
    seen_is =
        back.seen_is ∙ (told.seen_is ∙ ap {B = List Entry} (λ (now : List Entry). entry_of tag (Kind.Leave at) ∷ now)
        (still told.now told.comes));
    goes_on = λ start contents of now may.
        let there = made_for.reaches start contents now in
        let later = told.goes_on start contents there.0 there.1
        (still_leave outer inner stood stood_in tag made_for start contents now at own may) in
        let returned = back.returns start contents now later.1 later.2 in
        (made_for.looks start contents now at own, returned.0, returned.1);
  }

  goes_on_from : (at : ℕ) (now : List Entry) (has_come : LadderState → Type 0) → IsOwn outer tag at →
      GoesOnFrom inner inner_after stood_in stands_in at now has_come → GoesOnFrom outer after stood stands at inner.seen
      has_come
  goes_on_from at now has_come own told start contents of stands_now come =
      let there = made_for.reaches start contents stands_now in
      let later = told start contents there.0 there.1
      (still_come outer inner stood stood_in tag made_for has_come start contents stands_now at own come) in
      let returned = back.returns start contents stands_now later.1 later.2 in
      (made_for.looks start contents stands_now at own, returned.0, returned.1)

  pub moves : (at : ℕ) (word : List ℕ) (answer : MoveAnswer) → IsOwn outer tag at →
      Moves inner inner_after stood_in stands_in tag at word answer → Moves outer after stood stands tag at word answer
  moves at word answer own told = record {
    now = inner.seen;
    comes = made_for.comes;
    made =
        subst (MakesMove tag at inner.seen answer) (sym back.seen_is)
        (subst (λ (now : List Entry). MakesMove tag at now answer inner_after.seen) (still told.now told.comes) told.made);
    goes_on = goes_on_from at told.now (IsRecoveredAs word) own told.goes_on;
  }

  pub condemns : (at : ℕ) (answer : CondemnAnswer) → IsOwn outer tag at →
      Condemns inner inner_after stood_in stands_in tag at answer → Condemns outer after stood stands tag at answer
  condemns at answer own told = record {
    now = inner.seen;
    comes = made_for.comes;
    made =
        subst (MakesCondemn tag at inner.seen answer) (sym back.seen_is)
        (subst (λ (now : List Entry). MakesCondemn tag at now answer inner_after.seen) (still told.now told.comes) told.made);
    goes_on = goes_on_from at told.now (λ (state : LadderState). state ≡ uncorrectable) own told.goes_on;
  }
