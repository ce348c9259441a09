-- What may come next in a look: of two senses, of two failed senses, and of two outcomes of a copy that make the same choice,
-- one is the other, since the ladder, the row, the next slot and the weak dies decide it.
use Rattle.std.proofs.Common.{ℕ, ◌≡◌, Bool, true, false, ◌||◌, not, List, Option, Some, None, refl, sym, ap, subst, ◌∙◌, eqb-true}
use Rattle.std.specs.Prelude.{IsSomeAnd, IsTrue, if◌then◌else◌, is_none, ℤ}
use Rattle.std.proofs.lemmas.Bool.{false≢true}
use Rattle.ssd_histories.specs.CallSteps.{failed_die, is_look_at_row, is_look_of_none, is_look_of_page, is_sense_of}
use Rattle.ssd_histories.specs.Copies.{is_after_recovered, is_after_uncorrectable}
use Rattle.ssd_histories.specs.History.{open_look}
use Rattle.ssd_geo.specs.Ladder.{LadderState, asks, has_answer}
use Rattle.ssd_histories.specs.Lawful.{IsLawfulBadCopy, IsLawfulChanged, IsLawfulCondemn, IsLawfulKind, IsLawfulMove, IsLawfulSense, IsLawfulStay, IsUnchanged, is_closed_page, is_fault_sense_of, lacks_room}
use Rattle.ssd_histories.specs.Room.{has_host_room, is_victim_now, next_slot}
use Rattle.ssd_histories.proofs.UsedSlots.{of_some}
use Rattle.ssd_geo.specs.declared.base.ChannelBase.{ChannelBase}
use Rattle.ssd_geo.specs.declared.entry.Entry.{Entry}
use Rattle.ssd_geo.specs.declared.kind.Kind.{Kind}
use Rattle.ssd_geo.specs.declared.look.Look.{Look}
use Rattle.ssd_geo.specs.declared.place.Place.{Place}
use Rattle.ssd_geo.specs.declared.row.Row.{Row}
use Rattle.ssd_geo.specs.declared.slot.Slot.{Slot}
use Rattle.ssd_geo.specs.declared.tag.Tag.{Tag}
use Rattle.serial_output.proofs.NextEntries.{AreRivals, IsSameProgram, failed_once, programmed_once, programmed_or_failed, same_failed, told_die}

-- the place and level of a ladder that asks
asks_place : (place other : Place) (level next : ℤ) → asks place level ≡ asks other next → place ≡ other
asks_place place other level next e = cc

asks_level : (place other : Place) (level next : ℤ) → asks place level ≡ asks other next → level ≡ next
asks_level place other level next e = cc

pub no_answer_yet : (state : LadderState) (place : Place) (level : ℤ) → state ≡ asks place level → has_answer state ≡ true → ⊥
no_answer_yet state place level is answer =
    false≢true (subst (λ (s : LadderState). has_answer s ≡ true) is answer)

-- the look of a row
pub record IsLookOf (row : ℕ) (kind : Kind) : Type 0 where
  pub found : Row
  pub closed : Bool
  pub is : kind ≡ Kind.Look row found closed

pub look_form : (row : ℕ) (kind : Kind) → is_look_at_row row kind ≡ true → IsLookOf row kind
look_form row (Kind.Look named found closed) e = record {
  found = found;
  closed = closed;
  is = ap (λ (n : ℕ). Kind.Look n found closed) (eqb-true named row e);
}
look_form row kind e = absurd (false≢true e)

pub page_or_none : (kind : Kind) → is_look_of_page kind ≡ true → is_look_of_none kind ≡ true → ⊥
page_or_none (Kind.Look row (Row.Page slot serial) closed) page none = false≢true none
page_or_none (Kind.Look row Row.Empty closed) page none = false≢true page
page_or_none (Kind.Look row Row.Lost closed) page none = false≢true page
page_or_none kind page none = false≢true page

-- the look that is open
record IsOpen (option : Option Look) : Type 0 where
  look : Look
  is : option ≡ Some look

is_open : (option : Option Look) (P : Look → Type 0) → IsSomeAnd option P → IsOpen option
is_open (Some look) P held = record { look = look; is = refl }
is_open None P held = absurd held

module _ (state : ℕ → LadderState) (base : ChannelBase) (past : List Entry) (tag : Tag) where
  -- two looks of one row found the same
  pub looks_once : (row : ℕ) (first second : Kind) → is_look_at_row row first ≡ true → is_look_at_row row second ≡ true →
      AreRivals state base past tag first second → first ≡ second
  looks_once row first second one two rivals =
      let f : IsLookOf row first = look_form row first one in
      let s : IsLookOf row second = look_form row second two in
      let meets = subst (IsLawfulKind state base past tag) f.is rivals.first_meets in
      let too = subst (IsLawfulKind state base past tag) s.is rivals.second_meets in
      let found : f.found ≡ s.found = meets.is_found ∙ sym too.is_found in
      let closed : f.closed ≡ s.closed =
      meets.is_said ∙ ap (is_closed_page base past) found ∙ sym too.is_said in
      f.is ∙ (λ i. Kind.Look row (found i) (closed i)) ∙ sym s.is

  module _ (at : ℕ) where
    -- an entry is the sense for which the ladder asks, done or failed
    pub record AsksFor (form : Place → ℤ → Kind) (kind : Kind) : Type 0 where
      pub place : Place
      pub level : ℤ
      pub is : kind ≡ form place level
      pub asked : state at ≡ asks place level

    asked_by : (place : Place) (level : ℤ) (named : ℕ) → named ≡ at →
        IsSomeAnd (open_look past tag named) (λ look. IsLawfulSense (state named) past named place level) →
        state at ≡ asks place level
    asked_by place level named same meets =
        subst (λ (n : ℕ). state n ≡ asks place level) same
        (of_some (open_look past tag named) (λ look. IsLawfulSense (state named) past named place level)
        (λ look sense. sense.is_asked) meets)

    pub sense_asks : (kind : Kind) → is_sense_of at kind ≡ true → IsLawfulKind state base past tag kind →
        AsksFor (Kind.Sense at) kind
    sense_asks (Kind.Sense named place level) e meets = record {
      place = place;
      level = level;
      is = ap (λ (n : ℕ). Kind.Sense n place level) (eqb-true named at e);
      asked = asked_by place level named (eqb-true named at e) meets;
    }
    sense_asks kind e meets = absurd (false≢true e)

    pub fault_asks : (kind : Kind) → is_fault_sense_of at kind ≡ true → IsLawfulKind state base past tag kind →
        AsksFor (Kind.FaultSense at) kind
    fault_asks (Kind.FaultSense named place level) e meets = record {
      place = place;
      level = level;
      is = ap (λ (n : ℕ). Kind.FaultSense n place level) (eqb-true named at e);
      asked = asked_by place level named (eqb-true named at e) meets;
    }
    fault_asks kind e meets = absurd (false≢true e)

    pub asked_once : (form : Place → ℤ → Kind) (first second : Kind) → AsksFor form first → AsksFor form second → first ≡ second
    asked_once form first second f s =
        let e : asks f.place f.level ≡ asks s.place s.level = sym f.asked ∙ s.asked in
        let places : f.place ≡ s.place = asks_place f.place s.place f.level s.level e in
        let levels : f.level ≡ s.level = asks_level f.place s.place f.level s.level e in
        f.is ∙ (λ i. form (places i) (levels i)) ∙ sym s.is

    -- a sense isn't a failed one, since no die's call failed in it
    pub sense_or_fault : (first second : Kind) → AsksFor (Kind.Sense at) first → AsksFor (Kind.FaultSense at) second →
        failed_die first ≡ failed_die second → ⊥
    sense_or_fault first second f s same =
        let none : failed_die first ≡ None = ap failed_die f.is in
        let some : failed_die second ≡ Some s.place.die = ap failed_die s.is in
        absurd (cc)

    -- what became of a copy whose page was recovered, and whose row was as the look found it
    data IsStill (look : Look) (kind : Kind) : Type 0 where
      moves : (slot : Slot) → kind ≡ Kind.Move at slot → IsLawfulMove (state at) base past look slot → IsStill look kind
      stays : (worn : Bool) → kind ≡ Kind.Stay at worn → IsLawfulStay (state at) base past look worn → IsStill look kind
      fails : (slot : Slot) (die : ℕ) (fault : Bool) → kind ≡ Kind.BadCopy at slot die fault →
          IsLawfulBadCopy (state at) base past look slot die fault → IsStill look kind

    no_room_there : (slot : Slot) (victim host : Bool) (next : Option Slot) → next ≡ Some slot →
        (if victim then is_none next else not host) ≡ true → (host || victim) ≡ true → ⊥
    no_room_there slot true host (Some other) is none room = false≢true none
    no_room_there slot true host None is none room = absurd (cc)
    no_room_there slot false true next is none room = false≢true none
    no_room_there slot false false next is none room = false≢true room

    room_or_stay : (look : Look) (slot : Slot) → next_slot base past ≡ Some slot → IsTrue (lacks_room base past look) →
        IsTrue (has_host_room base past || is_victim_now base past look.slot.sb) → ⊥
    room_or_stay look slot =
        no_room_there slot (is_victim_now base past look.slot.sb) (has_host_room base past) (next_slot base past)

    told_of_copy : (kind : Kind) (slot : Slot) (die : ℕ) (fault : Bool) → kind ≡ Kind.BadCopy at slot die fault →
        failed_die kind ≡ told_die die fault
    told_of_copy kind slot die true is = ap failed_die is
    told_of_copy kind slot die false is = ap failed_die is

    moved_or_failed : (look : Look) (slot other : Slot) (die : ℕ) (fault : Bool) → None ≡ told_die die fault →
        IsLawfulMove (state at) base past look slot → IsLawfulBadCopy (state at) base past look other die fault → ⊥
    moved_or_failed look slot other die true told move bad = absurd (cc)
    moved_or_failed look slot other die false told move bad =
        programmed_or_failed base past slot other die move.is_programmed bad.is_failed

    still_once : (look : Look) (first second : Kind) → failed_die first ≡ failed_die second → IsStill look first →
        IsStill look second → first ≡ second
    still_once look first second same (moves slot is move) (moves other too next) =
        is ∙ ap (λ (named : Slot). Kind.Move at named)
        (programmed_once base past slot other move.is_programmed next.is_programmed)
        ∙ sym too
    still_once look first second same (moves slot is move) (stays worn too stay) =
        absurd (room_or_stay look slot move.is_programmed.is_next stay.no_room move.may_copy.has_room)
    still_once look first second same (moves slot is move) (fails other die fault too bad) =
        absurd (moved_or_failed look slot other die fault
        (sym (ap failed_die is) ∙ same ∙ told_of_copy second other die fault too) move bad)
    still_once look first second same (stays worn is stay) (moves slot too move) =
        absurd (room_or_stay look slot move.is_programmed.is_next stay.no_room move.may_copy.has_room)
    still_once look first second same (stays worn is stay) (stays other too next) =
        is ∙ ap (λ (flag : Bool). Kind.Stay at flag) (stay.flag ∙ sym next.flag) ∙ sym too
    still_once look first second same (stays worn is stay) (fails slot die fault too bad) =
        absurd (room_or_stay look slot bad.is_failed.is_next stay.no_room bad.may_copy.has_room)
    still_once look first second same (fails slot die fault is bad) (moves other too move) =
        absurd (moved_or_failed look other slot die fault
        (sym (ap failed_die too) ∙ sym same ∙ told_of_copy first slot die fault is) move bad)
    still_once look first second same (fails slot die fault is bad) (stays worn too stay) =
        absurd (room_or_stay look slot bad.is_failed.is_next stay.no_room bad.may_copy.has_room)
    still_once look first second same (fails slot die fault is bad) (fails other failed flag too next) =
        let one : IsSameProgram base past slot other die failed fault flag =
        failed_once base past slot other die failed fault flag
        (sym (told_of_copy first slot die fault is) ∙ same ∙ told_of_copy second other failed flag too)
        bad.is_failed next.is_failed in
        is ∙ (λ i. Kind.BadCopy at (one.same_slot i) (one.same.same_die i) (one.same.same_fault i)) ∙ sym too

    -- a copy found another row than its look, or the same and then had some outcome
    data HasOutcome (look : Look) (Still : Kind → Type 0) (kind : Kind) : Type 0 where
      changed : (found : Row) → kind ≡ Kind.Changed at found → IsLawfulChanged (state at) base past look found →
          HasOutcome look Still kind
      unchanged : IsUnchanged base past look → Still kind → HasOutcome look Still kind

    outcomes_once : (look : Look) (Still : Kind → Type 0) (first second : Kind) →
        (Still first → Still second → first ≡ second) →
        HasOutcome look Still first → HasOutcome look Still second → first ≡ second
    outcomes_once look Still first second once (changed found is one) (changed other too two) =
        is ∙ ap (λ (row : Row). Kind.Changed at row) (one.is_found ∙ sym two.is_found) ∙ sym too
    outcomes_once look Still first second once (changed found is one) (unchanged same still) =
        absurd (one.is_other (one.is_found ∙ same))
    outcomes_once look Still first second once (unchanged same still) (changed found is one) =
        absurd (one.is_other (one.is_found ∙ same))
    outcomes_once look Still first second once (unchanged same still) (unchanged too other) = once still other

    recovered_outcome : (look : Look) → open_look past tag at ≡ Some look → (kind : Kind) → is_after_recovered at kind ≡ true →
        IsLawfulKind state base past tag kind → HasOutcome look (IsStill look) kind
    recovered_outcome look is (Kind.Move named slot) e meets =
        let same : named ≡ at = eqb-true named at e in
        let here = subst (λ (n : ℕ). IsSomeAnd (open_look past tag n)
        (λ held. IsLawfulMove (state n) base past held slot)) same meets in
        let law = subst (λ (option : Option Look). IsSomeAnd option
        (λ held. IsLawfulMove (state at) base past held slot)) is here in
        unchanged law.may_copy.is_unchanged (moves slot (ap (λ (n : ℕ). Kind.Move n slot) same) law)
    recovered_outcome look is (Kind.Stay named worn) e meets =
        let same : named ≡ at = eqb-true named at e in
        let here = subst (λ (n : ℕ). IsSomeAnd (open_look past tag n)
        (λ held. IsLawfulStay (state n) base past held worn)) same meets in
        let law = subst (λ (option : Option Look). IsSomeAnd option
        (λ held. IsLawfulStay (state at) base past held worn)) is here in
        unchanged law.is_unchanged (stays worn (ap (λ (n : ℕ). Kind.Stay n worn) same) law)
    recovered_outcome look is (Kind.BadCopy named slot die fault) e meets =
        let same : named ≡ at = eqb-true named at e in
        let here = subst (λ (n : ℕ). IsSomeAnd (open_look past tag n)
        (λ held. IsLawfulBadCopy (state n) base past held slot die fault)) same meets in
        let law = subst (λ (option : Option Look). IsSomeAnd option
        (λ held. IsLawfulBadCopy (state at) base past held slot die fault)) is here in
        unchanged law.may_copy.is_unchanged (fails slot die fault (ap (λ (n : ℕ). Kind.BadCopy n slot die fault) same) law)
    recovered_outcome look is (Kind.Changed named found) e meets =
        let same : named ≡ at = eqb-true named at e in
        let here = subst (λ (n : ℕ). IsSomeAnd (open_look past tag n)
        (λ held. IsLawfulChanged (state n) base past held found)) same meets in
        let law = subst (λ (option : Option Look). IsSomeAnd option
        (λ held. IsLawfulChanged (state at) base past held found)) is here in
        changed found (ap (λ (n : ℕ). Kind.Changed n found) same) law
    recovered_outcome look is kind e meets = absurd (false≢true e)

    condemned_outcome : (look : Look) → open_look past tag at ≡ Some look → (kind : Kind) →
        is_after_uncorrectable at kind ≡ true → IsLawfulKind state base past tag kind →
        HasOutcome look (λ other. other ≡ Kind.Condemn at) kind
    condemned_outcome look is (Kind.Condemn named) e meets =
        let same : named ≡ at = eqb-true named at e in
        let here = subst (λ (n : ℕ). IsSomeAnd (open_look past tag n)
        (λ held. IsLawfulCondemn (state n) base past held)) same meets in
        let law = subst (λ (option : Option Look). IsSomeAnd option
        (λ held. IsLawfulCondemn (state at) base past held)) is here in
        unchanged law.is_unchanged (ap (λ (n : ℕ). Kind.Condemn n) same)
    condemned_outcome look is (Kind.Changed named found) e meets =
        let same : named ≡ at = eqb-true named at e in
        let here = subst (λ (n : ℕ). IsSomeAnd (open_look past tag n)
        (λ held. IsLawfulChanged (state n) base past held found)) same meets in
        let law = subst (λ (option : Option Look). IsSomeAnd option
        (λ held. IsLawfulChanged (state at) base past held found)) is here in
        changed found (ap (λ (n : ℕ). Kind.Changed n found) same) law
    condemned_outcome look is kind e meets = absurd (false≢true e)

    -- where an entry ends a copy, a look is open
    look_of_recovered : (kind : Kind) → is_after_recovered at kind ≡ true → IsLawfulKind state base past tag kind →
        IsOpen (open_look past tag at)
    look_of_recovered (Kind.Move named slot) e meets =
        subst (λ (n : ℕ). IsOpen (open_look past tag n)) (eqb-true named at e)
        (is_open (open_look past tag named) (λ held. IsLawfulMove (state named) base past held slot) meets)
    look_of_recovered (Kind.Stay named worn) e meets =
        subst (λ (n : ℕ). IsOpen (open_look past tag n)) (eqb-true named at e)
        (is_open (open_look past tag named) (λ held. IsLawfulStay (state named) base past held worn) meets)
    look_of_recovered (Kind.BadCopy named slot die fault) e meets =
        subst (λ (n : ℕ). IsOpen (open_look past tag n)) (eqb-true named at e)
        (is_open (open_look past tag named) (λ held. IsLawfulBadCopy (state named) base past held slot die fault) meets)
    look_of_recovered (Kind.Changed named found) e meets =
        subst (λ (n : ℕ). IsOpen (open_look past tag n)) (eqb-true named at e)
        (is_open (open_look past tag named) (λ held. IsLawfulChanged (state named) base past held found) meets)
    look_of_recovered kind e meets = absurd (false≢true e)

    look_of_condemned : (kind : Kind) → is_after_uncorrectable at kind ≡ true → IsLawfulKind state base past tag kind →
        IsOpen (open_look past tag at)
    look_of_condemned (Kind.Condemn named) e meets =
        subst (λ (n : ℕ). IsOpen (open_look past tag n)) (eqb-true named at e)
        (is_open (open_look past tag named) (λ held. IsLawfulCondemn (state named) base past held) meets)
    look_of_condemned (Kind.Changed named found) e meets =
        subst (λ (n : ℕ). IsOpen (open_look past tag n)) (eqb-true named at e)
        (is_open (open_look past tag named) (λ held. IsLawfulChanged (state named) base past held found) meets)
    look_of_condemned kind e meets = absurd (false≢true e)

    pub recovered_once : (first second : Kind) → is_after_recovered at first ≡ true → is_after_recovered at second ≡ true →
        AreRivals state base past tag first second → first ≡ second
    recovered_once first second one two rivals =
        let held : IsOpen (open_look past tag at) = look_of_recovered first one rivals.first_meets in
        outcomes_once held.look (IsStill held.look) first second
        (still_once held.look first second (same_failed first second rivals.same_choice))
        (recovered_outcome held.look held.is first one rivals.first_meets)
        (recovered_outcome held.look held.is second two rivals.second_meets)

    pub condemned_once : (first second : Kind) → is_after_uncorrectable at first ≡ true →
        is_after_uncorrectable at second ≡ true → AreRivals state base past tag first second → first ≡ second
    condemned_once first second one two rivals =
        let held : IsOpen (open_look past tag at) = look_of_condemned first one rivals.first_meets in
        outcomes_once held.look (λ other. other ≡ Kind.Condemn at) first second (λ is too. is ∙ sym too)
        (condemned_outcome held.look held.is first one rivals.first_meets)
        (condemned_outcome held.look held.is second two rivals.second_meets)
