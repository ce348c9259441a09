-- Two writes of one row, and two collects, that begin with the same past, and choose alike, end with the same past.
use Rattle.std.proofs.Common.{ℕ, ◌≡◌, ◌≤◌, Bool, true, false, ◌&&◌, ◌||◌, not, List, ◌∷◌, Option, Some, None, refl, sym, ap, subst, ◌∙◌, arith, eqb-true}
use Rattle.std.specs.Prelude.{if◌then◌else◌, ◌==◌, nat_le, nat_lt, is_none}
use Rattle.std.proofs.lemmas.Bool.{and_parts, false≢true, leb-true}
use Rattle.ssd_histories.specs.Blocks.{slots_left}
use Rattle.ssd_geo.specs.Ladder.{LadderState}
use Rattle.ssd_histories.specs.Lawful.{IsLawfulKind}
use Rattle.ssd_histories.specs.PastBlocks.{blocks_of, slots_in}
use Rattle.ssd_histories.specs.Room.{count_of_free, count_of_garbage, has_host_room, is_full, is_worn, live_of_victim, victim_of}
use Rattle.ssd_histories.specs.Rounds.{is_idle_note, is_note, needs_room}
use Rattle.ssd_histories.specs.SerialCalls.{RoundEnd, SerialCollect, SerialRound, SerialWrite, collects_again, decides, decides_collect, entry_of, faulted, is_faultless, is_idle, is_refused, left, makes_room, round_faults, write_faults, writes, writes_again}
use Rattle.ssd_geo.specs.declared.base.ChannelBase.{ChannelBase}
use Rattle.ssd_geo.specs.declared.entry.Entry.{Entry}
use Rattle.ssd_geo.specs.declared.kind.Kind.{Kind}
use Rattle.ssd_geo.specs.declared.slot.Slot.{Slot}
use Rattle.ssd_geo.specs.declared.tag.Tag.{Tag}
use Rattle.serial_laws.proofs.LeftLooks.{idle_is_note}
use Rattle.serial_laws.proofs.MadeCollects.{collect_is_made}
use Rattle.serial_laws.proofs.MadeWrites.{write_is_made}
use Rattle.serial_output.specs.SameChoices.{ComesTo}
use Rattle.serial_output.proofs.NextEntries.{AreAlike, AreRivals, IsSameProgram, comes_before, comes_on, failed_once, programmed_once, programmed_or_failed, rivals, same_failed, steps_come}
use Rattle.serial_output.proofs.RowsApart.{RowsApart}
use Rattle.serial_output.proofs.SameRounds.{IsSameEnd, rounds_once}

-- what a write does first over a past, by its room
pub room_or_needs : (room worn full : Bool) → room ≡ true → (not room && not worn && not full) ≡ true → ⊥
room_or_needs true worn full e f = false≢true f
room_or_needs false worn full e f = false≢true e

pub refused_or_needs : (room worn full : Bool) → (worn || full) ≡ true → (not room && not worn && not full) ≡ true → ⊥
refused_or_needs true worn full e f = false≢true f
refused_or_needs false true full e f = false≢true f
refused_or_needs false false true e f = false≢true f
refused_or_needs false false false e f = false≢true e

-- a channel isn't both worn and full: a worn one has no free superblock, and a full one has one
free_or_none : (free : ℕ) (a b c d : Bool) → (free == 0 && a) ≡ true → (nat_le 1 free && b && c && d) ≡ true → ⊥
free_or_none free a b c d none some =
    let zero_free : free ≡ 0 = eqb-true free 0 (and_parts (free == 0) a none).0 in
    let three = and_parts (nat_le 1 free && b && c) d some in
    let two = and_parts (nat_le 1 free && b) c three.0 in
    let one_free : 1 ≤ free = leb-true 1 free (and_parts (nat_le 1 free) b two.0).0 in
    absurd (omega (arith, zero_free, one_free))

worn_or_full : (base : ChannelBase) (past : List Entry) → is_worn base past ≡ true → is_full base past ≡ true → ⊥
worn_or_full base past worn full =
    free_or_none (count_of_free base past)
    (is_none (victim_of base past) || nat_lt (slots_left (slots_in base) (blocks_of base past)) (live_of_victim base past))
    (not (has_host_room base past)) (is_none (victim_of base past)) (count_of_garbage base past == 0) worn full

one_refusal : (base : ChannelBase) (past : List Entry) (worn other : Bool) →
    (if worn then is_worn base past else is_full base past) ≡ true →
    (if other then is_worn base past else is_full base past) ≡ true → worn ≡ other
one_refusal base past true true e f = refl
one_refusal base past true false e f = absurd (worn_or_full base past e f)
one_refusal base past false true e f = absurd (worn_or_full base past f e)
one_refusal base past false false e f = refl

-- a note is its numbers
record IsNoteOf (kind : Kind) : Type 0 where
  free : ℕ
  victim : Option ℕ
  live : ℕ
  pins : ℕ
  garbage : ℕ
  is : kind ≡ Kind.Note free victim live pins garbage

note_form : (kind : Kind) → is_note kind ≡ true → IsNoteOf kind
note_form (Kind.Note free victim live pins garbage) e =
    record { free = free; victim = victim; live = live; pins = pins; garbage = garbage; is = refl }
note_form kind e = absurd (false≢true e)

pub notes_once : (state : ℕ → LadderState) (base : ChannelBase) (past : List Entry) (tag : Tag) (first second : Kind) →
    is_note first ≡ true → is_note second ≡ true → AreRivals state base past tag first second → first ≡ second
notes_once state base past tag first second one two rivals =
    let f : IsNoteOf first = note_form first one in
    let s : IsNoteOf second = note_form second two in
    let law = subst (IsLawfulKind state base past tag) f.is rivals.first_meets in
    let too = subst (IsLawfulKind state base past tag) s.is rivals.second_meets in
    let frees : f.free ≡ s.free = law.free_is ∙ sym too.free_is in
    let victims : f.victim ≡ s.victim = law.victim_is ∙ sym too.victim_is in
    let lives : f.live ≡ s.live = law.live_is ∙ sym too.live_is in
    let pinned : f.pins ≡ s.pins = law.pins_is ∙ sym too.pins_is in
    let left_over : f.garbage ≡ s.garbage = law.garbage_is ∙ sym too.garbage_is in
    f.is ∙ (λ i. Kind.Note (frees i) (victims i) (lives i) (pinned i) (left_over i)) ∙ sym s.is

-- how a write goes on, with what is known of what comes after its first part
pub data WriteForm (ladder : List Entry → ℕ → LadderState) (base : ChannelBase) (tag : Tag) (row : ℕ)
    (before now final : List Entry) (Rest : List Entry → Type 0) : Type 0 where
  wrote : has_host_room base before ≡ true → (slot : Slot) → now ≡ entry_of tag (Kind.Write row slot) ∷ before →
      WriteForm ladder base tag row before now final Rest
  failed : has_host_room base before ≡ true → (slot : Slot) (die : ℕ) →
      now ≡ entry_of tag (Kind.BadWrite row slot die true) ∷ before → WriteForm ladder base tag row before now final Rest
  again : has_host_room base before ≡ true → (slot : Slot) (die : ℕ) →
      ComesTo (entry_of tag (Kind.BadWrite row slot die false) ∷ before) final →
      Rest (entry_of tag (Kind.BadWrite row slot die false) ∷ before) → WriteForm ladder base tag row before now final Rest
  refused : has_host_room base before ≡ false → (is_worn base before || is_full base before) ≡ true → (worn : Bool) →
      now ≡ entry_of tag (Kind.Refused row worn) ∷ before → WriteForm ladder base tag row before now final Rest
  made_room : needs_room base before ≡ true → (between : List Entry) (end : RoundEnd) →
      SerialRound ladder base tag before between end → is_faultless end ≡ true → ComesTo between final →
      Rest between → WriteForm ladder base tag row before now final Rest
  round_failed : needs_room base before ≡ true → SerialRound ladder base tag before now faulted →
      WriteForm ladder base tag row before now final Rest

-- the same for a collect
pub data CollectForm (ladder : List Entry → ℕ → LadderState) (base : ChannelBase) (tag : Tag) (before now final : List Entry)
    (Rest : List Entry → Type 0) : Type 0 where
  decided : (end : RoundEnd) → SerialRound ladder base tag before now end → decides_collect end ≡ true →
      CollectForm ladder base tag before now final Rest
  idled : (between : List Entry) (note : Kind) → SerialRound ladder base tag before between left → ComesTo between final →
      is_idle_note note ≡ true → now ≡ entry_of tag note ∷ between → CollectForm ladder base tag before now final Rest
  went_on : (between : List Entry) (note : Kind) → SerialRound ladder base tag before between left → ComesTo between final →
      is_note note ≡ true → is_idle_note note ≡ false → ComesTo (entry_of tag note ∷ between) final →
      Rest (entry_of tag note ∷ between) → CollectForm ladder base tag before now final Rest

module _ (ladder : List Entry → ℕ → LadderState) (base : ChannelBase) (tag : Tag) where
  module _ (row : ℕ) where
    pub write_comes : {before now : List Entry} → SerialWrite ladder base tag row before now → ComesTo before now
    write_comes {before} {now} write =
        let made = write_is_made ladder base tag row write in steps_come tag before now made.steps made.are_steps

    pub write_form : (before now final : List Entry) → SerialWrite ladder base tag row before now → ComesTo now final →
        WriteForm ladder base tag row before now final (λ between. SerialWrite ladder base tag row between now)
    write_form before now final (writes {slot = slot} room) comes = wrote room slot refl
    write_form before now final (write_faults {slot = slot} {die = die} room) comes = failed room slot die refl
    write_form before now final (writes_again {slot = slot} {die = die} room rest) comes =
        again room slot die
        (comes_on (entry_of tag (Kind.BadWrite row slot die false) ∷ before) now final (write_comes rest) comes) rest
    write_form before now final (is_refused {worn = worn} room cause) comes = refused room cause worn refl
    write_form before now final (makes_room {between = between} {end = end} needs round goes rest) comes =
        made_room needs between end round goes (comes_on between now final (write_comes rest) comes) rest
    write_form before now final (round_faults needs round) comes = round_failed needs round

  pub collect_comes : {before now : List Entry} → SerialCollect ladder base tag before now → ComesTo before now
  collect_comes {before} {now} collect =
      let made = collect_is_made ladder base tag collect in steps_come tag before now made.steps made.are_steps

  pub collect_form : (before now final : List Entry) → SerialCollect ladder base tag before now → ComesTo now final →
      CollectForm ladder base tag before now final (λ between. SerialCollect ladder base tag between now)
  collect_form before now final (decides {end = end} round is) comes = decided end round is
  collect_form before now final (is_idle {between = between} {note = note} round idle) comes =
      idled between note round (comes_before (entry_of tag note) between final comes) idle refl
  collect_form before now final (collects_again {between = between} {note = note} round is busy rest) comes =
      let came = comes_on (entry_of tag note ∷ between) now final (collect_comes rest) comes in
      went_on between note round (comes_before (entry_of tag note) between final came) is busy came rest

  module _ (one other : List Entry) (both : AreAlike ladder base one other)
      (apart : (past : List Entry) → ComesTo past one → RowsApart base past) where
    next_rivals : (before now now_too : List Entry) (first second : Kind) → now ≡ entry_of tag first ∷ before →
        now_too ≡ entry_of tag second ∷ before → ComesTo now one → ComesTo now_too other →
        AreRivals (ladder before) base before tag first second
    next_rivals before now now_too first second is is_too comes goes =
        rivals ladder base tag one other both before first second (subst (λ xs. ComesTo xs one) is comes)
        (subst (λ xs. ComesTo xs other) is_too goes)

    same_next : (before now now_too : List Entry) (first second : Kind) → now ≡ entry_of tag first ∷ before →
        now_too ≡ entry_of tag second ∷ before → first ≡ second → now ≡ now_too
    same_next before now now_too first second is is_too same =
        is ∙ ap (λ (kind : Kind). entry_of tag kind ∷ before) same ∙ sym is_too

    module _ (row : ℕ) (before now now_too : List Entry) (comes : ComesTo now one) (goes : ComesTo now_too other) where
      abbrev Later : List Entry → Type 0
      Later between = (after : List Entry) → SerialWrite ladder base tag row between after → ComesTo after other → now ≡ after

      abbrev First : Type 0
      First = WriteForm ladder base tag row before now one Later

      abbrev Second : Type 0
      Second = WriteForm ladder base tag row before now_too other (λ between. SerialWrite ladder base tag row between now_too)

      room_and_needs : has_host_room base before ≡ true → needs_room base before ≡ true → ⊥
      room_and_needs = room_or_needs (has_host_room base before) (is_worn base before) (is_full base before)

      refused_and_needs : (is_worn base before || is_full base before) ≡ true → needs_room base before ≡ true → ⊥
      refused_and_needs = refused_or_needs (has_host_room base before) (is_worn base before) (is_full base before)

      room_and_none : has_host_room base before ≡ true → has_host_room base before ≡ false → ⊥
      room_and_none room none = false≢true (sym none ∙ room)

      -- a program that succeeded, one whose die's call failed, and one that answered FAIL
      wrote_or_failed : (slot named : Slot) (die : ℕ) →
          AreRivals (ladder before) base before tag (Kind.Write row slot) (Kind.BadWrite row named die true) → ⊥
      wrote_or_failed slot named die meets =
          let told : None ≡ Some die = same_failed (Kind.Write row slot) (Kind.BadWrite row named die true) meets.same_choice in
          absurd (cc)

      failed_or_wrote : (slot named : Slot) (die : ℕ) →
          AreRivals (ladder before) base before tag (Kind.BadWrite row named die true) (Kind.Write row slot) → ⊥
      failed_or_wrote slot named die meets =
          let told : Some die ≡ None = same_failed (Kind.BadWrite row named die true) (Kind.Write row slot) meets.same_choice in
          absurd (cc)

      fault_or_fail : (slot named : Slot) (die failing : ℕ) →
          AreRivals (ladder before) base before tag (Kind.BadWrite row slot die true)
          (Kind.BadWrite row named failing false) → ⊥
      fault_or_fail slot named die failing meets =
          let told : Some die ≡ None =
          same_failed (Kind.BadWrite row slot die true) (Kind.BadWrite row named failing false) meets.same_choice in
          absurd (cc)

      fail_or_fault : (slot named : Slot) (die failing : ℕ) →
          AreRivals (ladder before) base before tag (Kind.BadWrite row slot die false)
          (Kind.BadWrite row named failing true) → ⊥
      fail_or_fault slot named die failing meets =
          let told : None ≡ Some failing =
          same_failed (Kind.BadWrite row slot die false) (Kind.BadWrite row named failing true) meets.same_choice in
          absurd (cc)

      came_next : (first second : Kind) → ComesTo (entry_of tag first ∷ before) one →
          ComesTo (entry_of tag second ∷ before) other →
          AreRivals (ladder before) base before tag first second
      came_next first second came went = rivals ladder base tag one other both before first second came went

      write_forms_same : First → Second → now ≡ now_too
      write_forms_same (wrote room slot is) (wrote room_too named is_too) =
          let meets = next_rivals before now now_too (Kind.Write row slot) (Kind.Write row named) is is_too comes goes in
          same_next before now now_too (Kind.Write row slot) (Kind.Write row named) is is_too
          (ap (λ (s : Slot). Kind.Write row s)
          (programmed_once base before slot named meets.first_meets.is_programmed meets.second_meets.is_programmed))
      write_forms_same (wrote room slot is) (failed room_too named die is_too) =
          absurd (wrote_or_failed slot named die
          (next_rivals before now now_too (Kind.Write row slot) (Kind.BadWrite row named die true) is is_too comes goes))
      write_forms_same (wrote room slot is) (again room_too named die went rest) =
          let meets = came_next (Kind.Write row slot) (Kind.BadWrite row named die false)
          (subst (λ xs. ComesTo xs one) is comes) went in
          absurd (programmed_or_failed base before slot named die meets.first_meets.is_programmed meets.second_meets.is_failed)
      write_forms_same (wrote room slot is) (refused none cause worn is_too) = absurd (room_and_none room none)
      write_forms_same (wrote room slot is) (made_room needs between end round faultless went rest) =
          absurd (room_and_needs room needs)
      write_forms_same (wrote room slot is) (round_failed needs round) = absurd (room_and_needs room needs)
      write_forms_same (failed room slot die is) (wrote room_too named is_too) =
          absurd (failed_or_wrote named slot die
          (next_rivals before now now_too (Kind.BadWrite row slot die true) (Kind.Write row named) is is_too comes goes))
      write_forms_same (failed room slot die is) (failed room_too named failing is_too) =
          let meets = next_rivals before now now_too (Kind.BadWrite row slot die true) (Kind.BadWrite row named failing true)
          is is_too comes goes in
          let same : IsSameProgram base before slot named die failing true true =
          failed_once base before slot named die failing true true
          (same_failed (Kind.BadWrite row slot die true) (Kind.BadWrite row named failing true) meets.same_choice)
          meets.first_meets.is_failed meets.second_meets.is_failed in
          same_next before now now_too (Kind.BadWrite row slot die true) (Kind.BadWrite row named failing true) is is_too
          (λ i. Kind.BadWrite row (same.same_slot i) (same.same.same_die i) true)
      write_forms_same (failed room slot die is) (again room_too named failing went rest) =
          absurd (fault_or_fail slot named die failing
          (came_next (Kind.BadWrite row slot die true) (Kind.BadWrite row named failing false)
          (subst (λ xs. ComesTo xs one) is comes) went))
      write_forms_same (failed room slot die is) (refused none cause worn is_too) = absurd (room_and_none room none)
      write_forms_same (failed room slot die is) (made_room needs between end round faultless went rest) =
          absurd (room_and_needs room needs)
      write_forms_same (failed room slot die is) (round_failed needs round) = absurd (room_and_needs room needs)
      write_forms_same (again room slot die came later) (wrote room_too named is_too) =
          let meets = came_next (Kind.BadWrite row slot die false) (Kind.Write row named) came
          (subst (λ xs. ComesTo xs other) is_too goes) in
          absurd (programmed_or_failed base before named slot die meets.second_meets.is_programmed meets.first_meets.is_failed)
      write_forms_same (again room slot die came later) (failed room_too named failing is_too) =
          absurd (fail_or_fault slot named die failing
          (came_next (Kind.BadWrite row slot die false) (Kind.BadWrite row named failing true) came
          (subst (λ xs. ComesTo xs other) is_too goes)))
      write_forms_same (again room slot die came later) (again room_too named failing went rest) =
          let meets = came_next (Kind.BadWrite row slot die false) (Kind.BadWrite row named failing false) came went in
          let same : IsSameProgram base before slot named die failing false false =
          failed_once base before slot named die failing false false refl meets.first_meets.is_failed
          meets.second_meets.is_failed in
          let kinds : Kind.BadWrite row slot die false ≡ Kind.BadWrite row named failing false =
          λ i. Kind.BadWrite row (same.same_slot i) (same.same.same_die i) false in
          later now_too (subst (λ (kind : Kind). SerialWrite ladder base tag row (entry_of tag kind ∷ before) now_too)
          (sym kinds) rest)
          goes
      write_forms_same (again room slot die came later) (refused none cause worn is_too) = absurd (room_and_none room none)
      write_forms_same (again room slot die came later) (made_room needs between end round faultless went rest) =
          absurd (room_and_needs room needs)
      write_forms_same (again room slot die came later) (round_failed needs round) = absurd (room_and_needs room needs)
      write_forms_same (refused none cause worn is) (wrote room named is_too) = absurd (room_and_none room none)
      write_forms_same (refused none cause worn is) (failed room named failing is_too) = absurd (room_and_none room none)
      write_forms_same (refused none cause worn is) (again room named failing went rest) = absurd (room_and_none room none)
      write_forms_same (refused none cause worn is) (refused none_too cause_too flag is_too) =
          let meets = next_rivals before now now_too (Kind.Refused row worn) (Kind.Refused row flag) is is_too comes goes in
          same_next before now now_too (Kind.Refused row worn) (Kind.Refused row flag) is is_too
          (ap (λ (b : Bool). Kind.Refused row b) (one_refusal base before worn flag meets.first_meets meets.second_meets))
      write_forms_same (refused none cause worn is) (made_room needs between end round faultless went rest) =
          absurd (refused_and_needs cause needs)
      write_forms_same (refused none cause worn is) (round_failed needs round) = absurd (refused_and_needs cause needs)
      write_forms_same (made_room needs between end round faultless came later) (wrote room named is_too) =
          absurd (room_and_needs room needs)
      write_forms_same (made_room needs between end round faultless came later) (failed room named failing is_too) =
          absurd (room_and_needs room needs)
      write_forms_same (made_room needs between end round faultless came later) (again room named failing went rest) =
          absurd (room_and_needs room needs)
      write_forms_same (made_room needs between end round faultless came later) (refused none cause worn is_too) =
          absurd (refused_and_needs cause needs)
      write_forms_same (made_room needs between end round faultless came later)
          (made_room needs_too between_too last turn faultless_too went rest) =
          let same : IsSameEnd between between_too end last =
          rounds_once ladder base tag one other both apart round turn came went in
          later now_too
          (subst (λ (past : List Entry). SerialWrite ladder base tag row past now_too) (sym same.same_past) rest) goes
      write_forms_same (made_room needs between end round faultless came later) (round_failed needs_too turn) =
          let same : IsSameEnd between now_too end faulted =
          rounds_once ladder base tag one other both apart round turn came goes in
          absurd (false≢true (subst (λ (last : RoundEnd). is_faultless last ≡ true) same.same_end faultless))
      write_forms_same (round_failed needs round) (wrote room named is_too) = absurd (room_and_needs room needs)
      write_forms_same (round_failed needs round) (failed room named failing is_too) = absurd (room_and_needs room needs)
      write_forms_same (round_failed needs round) (again room named failing went rest) = absurd (room_and_needs room needs)
      write_forms_same (round_failed needs round) (refused none cause worn is_too) = absurd (refused_and_needs cause needs)
      write_forms_same (round_failed needs round) (made_room needs_too between_too last turn faultless went rest) =
          let same : IsSameEnd now between_too faulted last =
          rounds_once ladder base tag one other both apart round turn comes went in
          absurd (false≢true (subst (λ (end : RoundEnd). is_faultless end ≡ true) (sym same.same_end) faultless))
      write_forms_same (round_failed needs round) (round_failed needs_too turn) =
          (rounds_once ladder base tag one other both apart round turn comes goes).same_past

    pub writes_once : (row : ℕ) {before now : List Entry} → SerialWrite ladder base tag row before now →
        (now_too : List Entry) →
        SerialWrite ladder base tag row before now_too → ComesTo now one → ComesTo now_too other → now ≡ now_too
    writes_once row {before} {now} (writes {slot = slot} room) now_too second comes goes =
        write_forms_same row before now now_too comes goes (wrote room slot refl)
        (write_form row before now_too other second goes)
    writes_once row {before} {now} (write_faults {slot = slot} {die = die} room) now_too second comes goes =
        write_forms_same row before now now_too comes goes (failed room slot die refl)
        (write_form row before now_too other second goes)
    writes_once row {before} {now} (writes_again {slot = slot} {die = die} room rest) now_too second comes goes =
        write_forms_same row before now now_too comes goes
        (again room slot die
        (comes_on (entry_of tag (Kind.BadWrite row slot die false) ∷ before) now one (write_comes row rest) comes)
        (λ after more went. writes_once row rest after more comes went))
        (write_form row before now_too other second goes)
    writes_once row {before} {now} (is_refused {worn = worn} room cause) now_too second comes goes =
        write_forms_same row before now now_too comes goes (refused room cause worn refl)
        (write_form row before now_too other second goes)
    writes_once row {before} {now}
        (makes_room {between = between} {end = end} needs round faultless rest) now_too second comes goes =
        write_forms_same row before now now_too comes goes
        (made_room needs between end round faultless (comes_on between now one (write_comes row rest) comes)
        (λ after more went. writes_once row rest after more comes went))
        (write_form row before now_too other second goes)
    writes_once row {before} {now} (round_faults needs round) now_too second comes goes =
        write_forms_same row before now now_too comes goes (round_failed needs round)
        (write_form row before now_too other second goes)

    module _ (before now now_too : List Entry) (comes : ComesTo now one) (goes : ComesTo now_too other) where
      abbrev More : List Entry → Type 0
      More between = (after : List Entry) → SerialCollect ladder base tag between after → ComesTo after other → now ≡ after

      -- a round that left a collect to go on didn't decide it
      left_or_decided : (between after : List Entry) (end : RoundEnd) → SerialRound ladder base tag before between left →
          SerialRound ladder base tag before after end → decides_collect end ≡ true → ComesTo between one →
          ComesTo after other → ⊥
      left_or_decided between after end round turn is came went =
          let same : IsSameEnd between after left end = rounds_once ladder base tag one other both apart round turn came went in
          false≢true (subst (λ (last : RoundEnd). decides_collect last ≡ true) (sym same.same_end) is)

      decided_or_left : (between after : List Entry) (end : RoundEnd) → SerialRound ladder base tag before between end →
          SerialRound ladder base tag before after left → decides_collect end ≡ true → ComesTo between one →
          ComesTo after other → ⊥
      decided_or_left between after end round turn is came went =
          let same : IsSameEnd between after end left = rounds_once ladder base tag one other both apart round turn came went in
          false≢true (subst (λ (last : RoundEnd). decides_collect last ≡ true) same.same_end is)

      -- after it the notes are the same
      same_notes : (between after : List Entry) (note named : Kind) → between ≡ after → is_note note ≡ true →
          is_note named ≡ true → ComesTo (entry_of tag note ∷ between) one → ComesTo (entry_of tag named ∷ after) other →
          note ≡ named
      same_notes between after note named same is is_too came went =
          notes_once (ladder between) base between tag note named is is_too
          (rivals ladder base tag one other both between note named came
          (subst (λ (past : List Entry). ComesTo (entry_of tag named ∷ past) other) (sym same) went))

      collect_forms_same : CollectForm ladder base tag before now one More →
          CollectForm ladder base tag before now_too other (λ between. SerialCollect ladder base tag between now_too) →
          now ≡ now_too
      collect_forms_same (decided end round is) (decided last turn is_too) =
          (rounds_once ladder base tag one other both apart round turn comes goes).same_past
      collect_forms_same (decided end round is) (idled after named turn went idle_too is_too) =
          absurd (decided_or_left now after end round turn is comes went)
      collect_forms_same (decided end round is) (went_on after named turn went note_too busy on rest) =
          absurd (decided_or_left now after end round turn is comes went)
      collect_forms_same (idled between note round came idle is) (decided last turn is_too) =
          absurd (left_or_decided between now_too last round turn is_too came goes)
      collect_forms_same (idled between note round came idle is) (idled after named turn went idle_too is_too) =
          let same : IsSameEnd between after left left =
          rounds_once ladder base tag one other both apart round turn came went in
          let notes : note ≡ named =
          same_notes between after note named same.same_past (idle_is_note note idle) (idle_is_note named idle_too)
          (subst (λ xs. ComesTo xs one) is comes) (subst (λ xs. ComesTo xs other) is_too goes) in
          is ∙ (λ i. entry_of tag (notes i) ∷ same.same_past i) ∙ sym is_too
      collect_forms_same (idled between note round came idle is) (went_on after named turn went note_too busy on rest) =
          let same : IsSameEnd between after left left =
          rounds_once ladder base tag one other both apart round turn came went in
          let notes : note ≡ named =
          same_notes between after note named same.same_past (idle_is_note note idle) note_too
          (subst (λ xs. ComesTo xs one) is comes) on in
          absurd (false≢true (sym busy ∙ subst (λ (kind : Kind). is_idle_note kind ≡ true) notes idle))
      collect_forms_same (went_on between note round came is_one busy on later) (decided last turn is_too) =
          absurd (left_or_decided between now_too last round turn is_too came goes)
      collect_forms_same (went_on between note round came is_one busy on later) (idled after named turn went idle_too is_too) =
          let same : IsSameEnd between after left left =
          rounds_once ladder base tag one other both apart round turn came went in
          let notes : note ≡ named =
          same_notes between after note named same.same_past is_one (idle_is_note named idle_too) on
          (subst (λ xs. ComesTo xs other) is_too goes) in
          absurd (false≢true (sym busy ∙ subst (λ (kind : Kind). is_idle_note kind ≡ true) (sym notes) idle_too))
      collect_forms_same (went_on between note round came is_one busy on later)
          (went_on after named turn went note_too busy_too on_too rest) =
          let same : IsSameEnd between after left left =
          rounds_once ladder base tag one other both apart round turn came went in
          let notes : note ≡ named = same_notes between after note named same.same_past is_one note_too on on_too in
          let pasts : ◌≡◌ {A = List Entry} (entry_of tag named ∷ after) (entry_of tag note ∷ between) =
          λ i. entry_of tag (sym notes i) ∷ sym same.same_past i in
          later now_too (subst (λ (past : List Entry). SerialCollect ladder base tag past now_too) pasts rest) goes

    pub collects_once : {before now : List Entry} → SerialCollect ladder base tag before now → (now_too : List Entry) →
        SerialCollect ladder base tag before now_too → ComesTo now one → ComesTo now_too other → now ≡ now_too
    collects_once {before} {now} (decides {end = end} round is) now_too second comes goes =
        collect_forms_same before now now_too comes goes (decided end round is) (collect_form before now_too other second goes)
    collects_once {before} {now} (is_idle {between = between} {note = note} round idle) now_too second comes goes =
        collect_forms_same before now now_too comes goes
        (idled between note round (comes_before (entry_of tag note) between one comes) idle refl)
        (collect_form before now_too other second goes)
    collects_once {before} {now}
        (collects_again {between = between} {note = note} round is busy rest) now_too second comes goes =
        let came = comes_on (entry_of tag note ∷ between) now one (collect_comes rest) comes in
        collect_forms_same before now now_too comes goes
        (went_on between note round (comes_before (entry_of tag note) between one came) is busy came
        (λ after more went. collects_once rest after more comes went))
        (collect_form before now_too other second goes)
