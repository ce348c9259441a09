-- Two writes of one row, or two collects, that begin with the same past, choose alike and were cut, end with the same past; not
-- one is whole and the other cut. For over the same past both ask for the same room, and what comes next in one found it.
use Rattle.std.proofs.Common.{ℕ, ◌≡◌, ◌||◌, Bool, true, false, List, [], ◌∷◌, Option, Some, None, refl, sym, subst, ◌∙◌, arith}
use Rattle.std.proofs.lemmas.Bool.{false≢true}
use Rattle.ssd_geo.specs.Ladder.{LadderState}
use Rattle.ssd_histories.specs.HistoryRoom.{found_room, has_look_room, has_room_for, has_step_room}
use Rattle.ssd_histories.specs.Room.{has_host_room, is_full, is_worn, victim_of}
use Rattle.ssd_histories.specs.Rounds.{is_idle_note, is_note, needs_room}
use Rattle.ssd_histories.specs.SerialCalls.{IsSerialCopy, RoundEnd, SerialCollect, SerialCopies, SerialRound, SerialWrite, decides_collect, entry_of, faulted, is_faultless, left, picks, takes}
use Rattle.ssd_geo.specs.declared.base.ChannelBase.{ChannelBase}
use Rattle.ssd_geo.specs.declared.entry.Entry.{Entry}
use Rattle.ssd_geo.specs.declared.kind.Kind.{Kind}
use Rattle.ssd_geo.specs.declared.slot.Slot.{Slot}
use Rattle.ssd_geo.specs.declared.tag.Tag.{Tag}
use Rattle.serial_laws.proofs.LeftLooks.{idle_is_note}
use Rattle.serial_output.specs.SameChoices.{ComesTo}
use Rattle.serial_output.proofs.CutForms.{CutCollect, CutCopies, CutRound, CutWrite, at_note, at_pick, at_victim, at_write, copied as copied_on, in_round, in_turn, made_room as made_room_on, noted, picked, took, wrote_again}
use Rattle.serial_output.proofs.CutSteps.{copy_opens, note_asks, opening_has_room}
use Rattle.serial_output.proofs.NextEntries.{AreAlike, AreRivals, IsSameProgram, alike_back, comes_before, comes_on, failed_once, programmed_or_failed, rivals, same_failed, steps_come}
use Rattle.serial_output.proofs.NextOnTheWay.{room_on_the_way}
use Rattle.serial_output.proofs.RowsApart.{RowsApart}
use Rattle.serial_output.proofs.SameRounds.{CopiesForm, IsErasing, IsSameEnd, copied, copies_come, copy_once, ended, erasing, form_of, idle, no_live, round_comes, rounds_once, was_erased, was_faulted, was_retired}
use Rattle.serial_output.proofs.SameWrites.{CollectForm, WriteForm, again, collect_form, decided, failed, idled, made_room, notes_once, refused, refused_or_needs, room_or_needs, round_failed, went_on, write_form, wrote}

-- a cut call comes on to the past where it was cut
module _ (ladder : List Entry → ℕ → LadderState) (base : ChannelBase) (tag : Tag) (limit : ℕ) where
  stays_there : (before now : List Entry) → now ≡ before → ComesTo before now
  stays_there before now same = record { newer = []; is = same }

  cut_copies_come : {before now : List Entry} → CutCopies ladder base tag limit before now → ComesTo before now
  cut_copies_come {before} {now} (at_victim same victim full) = stays_there before now same
  cut_copies_come {before} {now} (copied_on {between = between} copy rest) =
      comes_on before between now (steps_come tag before between copy.steps copy.are_steps) (cut_copies_come rest)

  cut_round_comes : {before now : List Entry} → CutRound ladder base tag limit before now → ComesTo before now
  cut_round_comes {before} {now} (at_pick same may full) = stays_there before now same
  cut_round_comes {before} {now} (picked {sb = sb} may rest) =
      comes_before (entry_of tag (Kind.Pick sb)) before now (cut_copies_come rest)
  cut_round_comes (took may_not rest) = cut_copies_come rest

  cut_write_comes : {row : ℕ} {before now : List Entry} → CutWrite ladder base tag limit row before now → ComesTo before now
  cut_write_comes {row} {before} {now} (at_write same needs full) = stays_there before now same
  cut_write_comes {row} {before} {now} (wrote_again {slot = slot} {die = die} room rest) =
      comes_before (entry_of tag (Kind.BadWrite row slot die false)) before now (cut_write_comes rest)
  cut_write_comes (in_round needs round) = cut_round_comes round
  cut_write_comes {row} {before} {now} (made_room_on {between = between} needs round faultless rest) =
      comes_on before between now (round_comes ladder base tag round) (cut_write_comes rest)

  cut_collect_comes : {before now : List Entry} → CutCollect ladder base tag limit before now → ComesTo before now
  cut_collect_comes (in_turn round) = cut_round_comes round
  cut_collect_comes (at_note round full) = round_comes ladder base tag round
  cut_collect_comes {before} {now} (noted {between = between} {note = note} round is busy rest) =
      comes_on before between now (round_comes ladder base tag round)
      (comes_before (entry_of tag note) between now (cut_collect_comes rest))

module _ (ladder : List Entry → ℕ → LadderState) (base : ChannelBase) (tag : Tag) (limit : ℕ) where
  -- the first of a copy, and an entry, that stand on the way found room
  copy_found : (other : List Entry) → found_room limit other ≡ true → (before between : List Entry) (ends fault : Bool) →
      IsSerialCopy ladder base tag before between ends fault → ComesTo between other → has_look_room limit before ≡ true
  copy_found other found before between ends fault copy went =
      opening_has_room tag (has_look_room limit) limit copy.steps before between copy.are_steps
      (copy_opens limit ladder base tag before between ends fault copy) other went found

  entry_found : (other : List Entry) → found_room limit other ≡ true → (before : List Entry) (kind : Kind) →
      ComesTo (entry_of tag kind ∷ before) other → has_room_for limit before kind ≡ true
  entry_found other found before kind went = room_on_the_way limit (entry_of tag kind) before other found went

  erasing_asks : (past : List Entry) (sb : ℕ) (kind : Kind) (end : RoundEnd) → IsErasing sb kind end →
      has_room_for limit past kind ≡ has_look_room limit past
  erasing_asks past sb kind end was_erased = refl
  erasing_asks past sb kind end (was_retired die) = refl
  erasing_asks past sb kind end (was_faulted die) = refl

  none_or_found : (b : Bool) → b ≡ false → b ≡ true → ⊥
  none_or_found b none found = false≢true (sym none ∙ found)

  none_or_some : (victim : Option ℕ) (sb : ℕ) → victim ≡ Some sb → victim ≡ None → ⊥
  none_or_some victim sb some none = absurd (cc)

  -- one was cut, and the other is whole
  module _ (one other : List Entry) (both : AreAlike ladder base one other)
      (apart : (past : List Entry) → ComesTo past one → RowsApart base past) (found : found_room limit other ≡ true) where
    at_victim_or_form : (before then : List Entry) (end : RoundEnd) (sb : ℕ) (Rest : List Entry → Type 0) →
        victim_of base before ≡ Some sb → has_look_room limit before ≡ false → ComesTo then other →
        CopiesForm ladder base tag before then other end Rest → ⊥
    at_victim_or_form before then end sb Rest victim full goes (copied between copy went rest) =
        none_or_found (has_look_room limit before) full (copy_found other found before between false false copy went)
    at_victim_or_form before then end sb Rest victim full goes (ended fault copy is) =
        none_or_found (has_look_room limit before) full (copy_found other found before then true fault copy goes)
    at_victim_or_form before then end sb Rest victim full goes (erasing named kind victim_too none was is) =
        none_or_found (has_look_room limit before) full
        (sym (erasing_asks before named kind end was)
        ∙ entry_found other found before kind (subst (λ past. ComesTo past other) is goes))
    at_victim_or_form before then end sb Rest victim full goes (idle nobody is end_is) =
        none_or_some (victim_of base before) sb victim nobody

    copied_or_form : (before between then : List Entry) (end : RoundEnd) →
        IsSerialCopy ladder base tag before between false false → ComesTo between one → ComesTo then other →
        (SerialCopies ladder base tag between then end → ⊥) →
        CopiesForm ladder base tag before then other end (λ past. SerialCopies ladder base tag past then end) → ⊥
    copied_or_form before between then end copy came goes later (copied between_too next went rest) =
        let same : between_too ≡ between =
        sym (copy_once ladder base tag one other both apart before between between_too false false false false copy next came
        went).same_past in
        later (subst (λ (past : List Entry). SerialCopies ladder base tag past then end) same rest)
    copied_or_form before between then end copy came goes later (ended fault next is) =
        false≢true
        (copy_once ladder base tag one other both apart before between then false true false fault copy next came
        goes).same_ends
    copied_or_form before between then end copy came goes later (erasing sb kind victim none was is) =
        let live = copy.has_live in absurd (omega (arith, live, none))
    copied_or_form before between then end copy came goes later (idle nobody is end_is) =
        let live = copy.has_live in let zero_live = no_live base before nobody in absurd (omega (arith, live, zero_live))

    cut_or_copied : {before now : List Entry} → CutCopies ladder base tag limit before now → (then : List Entry)
        (end : RoundEnd) → SerialCopies ladder base tag before then end → ComesTo now one → ComesTo then other → ⊥
    cut_or_copied {before} {now} (at_victim {sb = sb} same victim full) then end second comes goes =
        at_victim_or_form before then end sb (λ past. SerialCopies ladder base tag past then end) victim full goes
        (form_of ladder base tag before then other end second goes)
    cut_or_copied {before} {now} (copied_on {between = between} copy rest) then end second comes goes =
        copied_or_form before between then end copy
        (comes_on between now one (cut_copies_come ladder base tag limit rest) comes) goes
        (λ more. cut_or_copied rest then end more comes goes)
        (form_of ladder base tag before then other end second goes)

    cut_or_rounded : {before now then : List Entry} {end : RoundEnd} → CutRound ladder base tag limit before now →
        SerialRound ladder base tag before then end → ComesTo now one → ComesTo then other → ⊥
    cut_or_rounded {before} {now} {then} {end} (at_pick same may full) (picks {sb = sb} might copies) comes goes =
        none_or_found (has_step_room limit before) full
        (entry_found other found before (Kind.Pick sb)
        (comes_on (entry_of tag (Kind.Pick sb) ∷ before) then other (copies_come ladder base tag copies) goes))
    cut_or_rounded {before} (at_pick same may full) (takes may_not copies) comes goes = false≢true (sym may_not ∙ may)
    cut_or_rounded {before} {now} {then} {end} (picked {sb = sb} may cut) (picks {sb = named} might copies) comes goes =
        let came = comes_on (entry_of tag (Kind.Pick sb) ∷ before) now one (cut_copies_come ladder base tag limit cut) comes in
        let went = comes_on (entry_of tag (Kind.Pick named) ∷ before) then other (copies_come ladder base tag copies) goes in
        let meets : AreRivals (ladder before) base before tag (Kind.Pick sb) (Kind.Pick named) =
        rivals ladder base tag one other both before (Kind.Pick sb) (Kind.Pick named) came went in
        let blocks : named ≡ sb = sym (meets.same_choice.same_pick sb named refl refl) in
        cut_or_copied cut then end
        (subst (λ (n : ℕ). SerialCopies ladder base tag (entry_of tag (Kind.Pick n) ∷ before) then end) blocks copies)
        comes goes
    cut_or_rounded {before} (picked may cut) (takes may_not copies) comes goes = false≢true (sym may_not ∙ may)
    cut_or_rounded {before} (took may_not cut) (picks may copies) comes goes = false≢true (sym may_not ∙ may)
    cut_or_rounded {before} {now} {then} {end} (took may_not cut) (takes may_not_too copies) comes goes =
        cut_or_copied cut then end copies comes goes

    module _ (row : ℕ) where
      room_and_needs : (before : List Entry) → has_host_room base before ≡ true → needs_room base before ≡ true → ⊥
      room_and_needs before = room_or_needs (has_host_room base before) (is_worn base before) (is_full base before)

      refused_and_needs : (before : List Entry) → (is_worn base before || is_full base before) ≡ true →
          needs_room base before ≡ true → ⊥
      refused_and_needs before = refused_or_needs (has_host_room base before) (is_worn base before) (is_full base before)

      -- the other program of a row over the same past, where one answered FAIL
      one_failed : (before : List Entry) (slot : Slot) (die : ℕ) (second : Kind) →
          ComesTo (entry_of tag (Kind.BadWrite row slot die false) ∷ before) one →
          ComesTo (entry_of tag second ∷ before) other →
          AreRivals (ladder before) base before tag (Kind.BadWrite row slot die false) second
      one_failed before slot die second came went =
          rivals ladder base tag one other both before (Kind.BadWrite row slot die false) second came went

      at_write_or_form : (before then : List Entry) (Rest : List Entry → Type 0) → (needs_room base before ≡ true → ⊥) →
          has_step_room limit before ≡ false → ComesTo then other → WriteForm ladder base tag row before then other Rest → ⊥
      at_write_or_form before then Rest needs_none full goes (wrote room slot is) =
          none_or_found (has_step_room limit before) full
          (entry_found other found before (Kind.Write row slot) (subst (λ past. ComesTo past other) is goes))
      at_write_or_form before then Rest needs_none full goes (failed room slot die is) =
          none_or_found (has_step_room limit before) full
          (entry_found other found before (Kind.BadWrite row slot die true) (subst (λ past. ComesTo past other) is goes))
      at_write_or_form before then Rest needs_none full goes (again room slot die went rest) =
          none_or_found (has_step_room limit before) full
          (entry_found other found before (Kind.BadWrite row slot die false) went)
      at_write_or_form before then Rest needs_none full goes (refused none cause worn is) =
          none_or_found (has_step_room limit before) full
          (entry_found other found before (Kind.Refused row worn) (subst (λ past. ComesTo past other) is goes))
      at_write_or_form before then Rest needs_none full goes (made_room needs between end round faultless went rest) =
          needs_none needs
      at_write_or_form before then Rest needs_none full goes (round_failed needs round) = needs_none needs

      again_or_form : (before then : List Entry) (slot : Slot) (die : ℕ) → has_host_room base before ≡ true →
          ComesTo (entry_of tag (Kind.BadWrite row slot die false) ∷ before) one → ComesTo then other →
          (SerialWrite ladder base tag row (entry_of tag (Kind.BadWrite row slot die false) ∷ before) then → ⊥) →
          WriteForm ladder base tag row before then other (λ past. SerialWrite ladder base tag row past then) → ⊥
      again_or_form before then slot die room came goes later (wrote room_too named is) =
          let meets = one_failed before slot die (Kind.Write row named) came (subst (λ past. ComesTo past other) is goes) in
          programmed_or_failed base before named slot die meets.second_meets.is_programmed meets.first_meets.is_failed
      again_or_form before then slot die room came goes later (failed room_too named failing is) =
          let meets : AreRivals (ladder before) base before tag (Kind.BadWrite row slot die false)
          (Kind.BadWrite row named failing true) =
          one_failed before slot die (Kind.BadWrite row named failing true) came
          (subst (λ past. ComesTo past other) is goes) in
          let told : None ≡ Some failing =
          same_failed (Kind.BadWrite row slot die false) (Kind.BadWrite row named failing true) meets.same_choice in
          absurd (cc)
      again_or_form before then slot die room came goes later (again room_too named failing went rest) =
          let meets = one_failed before slot die (Kind.BadWrite row named failing false) came went in
          let same : IsSameProgram base before slot named die failing false false =
          failed_once base before slot named die failing false false refl meets.first_meets.is_failed
          meets.second_meets.is_failed in
          let kinds : Kind.BadWrite row slot die false ≡ Kind.BadWrite row named failing false =
          λ i. Kind.BadWrite row (same.same_slot i) (same.same.same_die i) false in
          later (subst (λ (kind : Kind). SerialWrite ladder base tag row (entry_of tag kind ∷ before) then) (sym kinds) rest)
      again_or_form before then slot die room came goes later (refused none cause worn is) = false≢true (sym none ∙ room)
      again_or_form before then slot die room came goes later (made_room needs between end round faultless went rest) =
          room_and_needs before room needs
      again_or_form before then slot die room came goes later (round_failed needs round) = room_and_needs before room needs

      in_round_or_form : (before now then : List Entry) (Rest : List Entry → Type 0) → needs_room base before ≡ true →
          CutRound ladder base tag limit before now → ComesTo now one → ComesTo then other →
          WriteForm ladder base tag row before then other Rest → ⊥
      in_round_or_form before now then Rest needs cut comes goes (wrote room slot is) = room_and_needs before room needs
      in_round_or_form before now then Rest needs cut comes goes (failed room slot die is) = room_and_needs before room needs
      in_round_or_form before now then Rest needs cut comes goes (again room slot die went rest) =
          room_and_needs before room needs
      in_round_or_form before now then Rest needs cut comes goes (refused none cause worn is) =
          refused_and_needs before cause needs
      in_round_or_form before now then Rest needs cut comes goes (made_room needs_too between end round faultless went rest) =
          cut_or_rounded cut round comes went
      in_round_or_form before now then Rest needs cut comes goes (round_failed needs_too round) =
          cut_or_rounded cut round comes goes

      made_room_or_form : (before between then : List Entry) (end : RoundEnd) → needs_room base before ≡ true →
          SerialRound ladder base tag before between end → is_faultless end ≡ true → ComesTo between one →
          ComesTo then other → (SerialWrite ladder base tag row between then → ⊥) →
          WriteForm ladder base tag row before then other (λ past. SerialWrite ladder base tag row past then) → ⊥
      made_room_or_form before between then end needs round faultless came goes later (wrote room slot is) =
          room_and_needs before room needs
      made_room_or_form before between then end needs round faultless came goes later (failed room slot die is) =
          room_and_needs before room needs
      made_room_or_form before between then end needs round faultless came goes later (again room slot die went rest) =
          room_and_needs before room needs
      made_room_or_form before between then end needs round faultless came goes later (refused none cause worn is) =
          refused_and_needs before cause needs
      made_room_or_form before between then end needs round faultless came goes later
          (made_room needs_too between_too last turn faultless_too went rest) =
          let same : IsSameEnd between between_too end last =
          rounds_once ladder base tag one other both apart round turn came went in
          later (subst (λ (past : List Entry). SerialWrite ladder base tag row past then) (sym same.same_past) rest)
      made_room_or_form before between then end needs round faultless came goes later (round_failed needs_too turn) =
          let same : IsSameEnd between then end faulted =
          rounds_once ladder base tag one other both apart round turn came goes in
          false≢true (subst (λ (last : RoundEnd). is_faultless last ≡ true) same.same_end faultless)

      pub cut_or_written : {before now : List Entry} → CutWrite ladder base tag limit row before now → (then : List Entry) →
          SerialWrite ladder base tag row before then → ComesTo now one → ComesTo then other → ⊥
      cut_or_written {before} {now} (at_write same needs_none full) then second comes goes =
          at_write_or_form before then (λ past. SerialWrite ladder base tag row past then) needs_none full goes
          (write_form ladder base tag row before then other second goes)
      cut_or_written {before} {now} (wrote_again {slot = slot} {die = die} room cut) then second comes goes =
          again_or_form before then slot die room
          (comes_on (entry_of tag (Kind.BadWrite row slot die false) ∷ before) now one
          (cut_write_comes ladder base tag limit cut) comes) goes
          (λ more. cut_or_written cut then more comes goes)
          (write_form ladder base tag row before then other second goes)
      cut_or_written {before} {now} (in_round needs cut) then second comes goes =
          in_round_or_form before now then (λ past. SerialWrite ladder base tag row past then) needs cut comes goes
          (write_form ladder base tag row before then other second goes)
      cut_or_written {before} {now} (made_room_on {between = between} {end = end} needs round faultless cut) then second comes
          goes =
          made_room_or_form before between then end needs round faultless
          (comes_on between now one (cut_write_comes ladder base tag limit cut) comes) goes
          (λ more. cut_or_written cut then more comes goes)
          (write_form ladder base tag row before then other second goes)

    -- a round that left its victim didn't decide the collect
    left_or_decides : (before between then : List Entry) (end : RoundEnd) → SerialRound ladder base tag before between left →
        SerialRound ladder base tag before then end → decides_collect end ≡ true → ComesTo between one → ComesTo then other → ⊥
    left_or_decides before between then end round turn is came went =
        let same : IsSameEnd between then left end = rounds_once ladder base tag one other both apart round turn came went in
        false≢true (subst (λ (last : RoundEnd). decides_collect last ≡ true) (sym same.same_end) is)

    same_left : (before between then : List Entry) → SerialRound ladder base tag before between left →
        SerialRound ladder base tag before then left → ComesTo between one → ComesTo then other → between ≡ then
    same_left before between then round turn came went =
        (rounds_once ladder base tag one other both apart round turn came went).same_past

    -- after it the notes are the same
    notes_are : (between then : List Entry) (note named : Kind) → between ≡ then → is_note note ≡ true → is_note named ≡ true →
        ComesTo (entry_of tag note ∷ between) one → ComesTo (entry_of tag named ∷ then) other → note ≡ named
    notes_are between then note named same is is_too came went =
        notes_once (ladder between) base between tag note named is is_too
        (rivals ladder base tag one other both between note named came
        (subst (λ (past : List Entry). ComesTo (entry_of tag named ∷ past) other) (sym same) went))

    note_found : (before now then : List Entry) (note : Kind) → SerialRound ladder base tag before now left →
        SerialRound ladder base tag before then left → is_note note ≡ true → has_step_room limit now ≡ false →
        ComesTo now one → ComesTo (entry_of tag note ∷ then) other → ⊥
    note_found before now then note round turn is full comes went =
        let same : now ≡ then = same_left before now then round turn comes (comes_before (entry_of tag note) then other went) in
        none_or_found (has_step_room limit then) (subst (λ (past : List Entry). has_step_room limit past ≡ false) same full)
        (sym (note_asks limit then note is) ∙ entry_found other found then note went)

    in_turn_or_form : (before now then : List Entry) (Rest : List Entry → Type 0) → CutRound ladder base tag limit before now →
        ComesTo now one → ComesTo then other → CollectForm ladder base tag before then other Rest → ⊥
    in_turn_or_form before now then Rest cut comes goes (decided end round is) = cut_or_rounded cut round comes goes
    in_turn_or_form before now then Rest cut comes goes (idled between note round went is_idle is) =
        cut_or_rounded cut round comes went
    in_turn_or_form before now then Rest cut comes goes (went_on between note round went is busy on rest) =
        cut_or_rounded cut round comes went

    at_note_or_form : (before now then : List Entry) (Rest : List Entry → Type 0) →
        SerialRound ladder base tag before now left →
        has_step_room limit now ≡ false → ComesTo now one → ComesTo then other →
        CollectForm ladder base tag before then other Rest → ⊥
    at_note_or_form before now then Rest round full comes goes (decided end turn is) =
        left_or_decides before now then end round turn is comes goes
    at_note_or_form before now then Rest round full comes goes (idled between note turn went is_idle is) =
        note_found before now between note round turn (idle_is_note note is_idle) full comes
        (subst (λ past. ComesTo past other) is goes)
    at_note_or_form before now then Rest round full comes goes (went_on between note turn went is busy on rest) =
        note_found before now between note round turn is full comes on

    noted_or_form : (before between then : List Entry) (note : Kind) → SerialRound ladder base tag before between left →
        is_note note ≡ true → is_idle_note note ≡ false → ComesTo (entry_of tag note ∷ between) one → ComesTo then other →
        (SerialCollect ladder base tag (entry_of tag note ∷ between) then → ⊥) →
        CollectForm ladder base tag before then other (λ past. SerialCollect ladder base tag past then) → ⊥
    noted_or_form before between then note round is busy came goes later (decided end turn decides) =
        left_or_decides before between then end round turn decides (comes_before (entry_of tag note) between one came) goes
    noted_or_form before between then note round is busy came goes later (idled after named turn went is_idle is_it) =
        let same : between ≡ after =
        same_left before between after round turn (comes_before (entry_of tag note) between one came) went in
        let notes : note ≡ named =
        notes_are between after note named same is (idle_is_note named is_idle) came
        (subst (λ past. ComesTo past other) is_it goes) in
        false≢true (sym busy ∙ subst (λ (kind : Kind). is_idle_note kind ≡ true) (sym notes) is_idle)
    noted_or_form before between then note round is busy came goes later
        (went_on after named turn went is_too busy_too on rest) =
        let same : between ≡ after =
        same_left before between after round turn (comes_before (entry_of tag note) between one came) went in
        let notes : note ≡ named = notes_are between after note named same is is_too came on in
        let pasts : ◌≡◌ {A = List Entry} (entry_of tag named ∷ after) (entry_of tag note ∷ between) =
        λ i. entry_of tag (sym notes i) ∷ sym same i in
        later (subst (λ (past : List Entry). SerialCollect ladder base tag past then) pasts rest)

    pub cut_or_collected : {before now : List Entry} → CutCollect ladder base tag limit before now → (then : List Entry) →
        SerialCollect ladder base tag before then → ComesTo now one → ComesTo then other → ⊥
    cut_or_collected {before} {now} (in_turn cut) then second comes goes =
        in_turn_or_form before now then (λ past. SerialCollect ladder base tag past then) cut comes goes
        (collect_form ladder base tag before then other second goes)
    cut_or_collected {before} {now} (at_note round full) then second comes goes =
        at_note_or_form before now then (λ past. SerialCollect ladder base tag past then) round full comes goes
        (collect_form ladder base tag before then other second goes)
    cut_or_collected {before} {now} (noted {between = between} {note = note} round is busy cut) then second comes goes =
        noted_or_form before between then note round is busy
        (comes_on (entry_of tag note ∷ between) now one (cut_collect_comes ladder base tag limit cut) comes) goes
        (λ more. cut_or_collected cut then more comes goes)
        (collect_form ladder base tag before then other second goes)

  -- both were cut
  module _ (one other : List Entry) (both : AreAlike ladder base one other)
      (apart : (past : List Entry) → ComesTo past one → RowsApart base past)
      (apart_too : (past : List Entry) → ComesTo past other → RowsApart base past) (found : found_room limit one ≡ true)
      (found_too : found_room limit other ≡ true) where
    both_back : AreAlike ladder base other one
    both_back = alike_back ladder base one other both

    cut_copies_once : {before now now_too : List Entry} → CutCopies ladder base tag limit before now →
        CutCopies ladder base tag limit before now_too → ComesTo now one → ComesTo now_too other → now ≡ now_too
    cut_copies_once (at_victim same victim full) (at_victim same_too victim_too full_too) comes goes = same ∙ sym same_too
    cut_copies_once {before} {now} {now_too} (at_victim same victim full) (copied_on {between = between} copy rest) comes goes =
        absurd (none_or_found (has_look_room limit before) full
        (copy_found other found_too before between false false copy
        (comes_on between now_too other (cut_copies_come ladder base tag limit rest) goes)))
    cut_copies_once {before} {now} {now_too} (copied_on {between = between} copy rest) (at_victim same victim full) comes goes =
        absurd (none_or_found (has_look_room limit before) full
        (copy_found one found before between false false copy
        (comes_on between now one (cut_copies_come ladder base tag limit rest) comes)))
    cut_copies_once {before} {now} {now_too} (copied_on {between = between} copy rest)
        (copied_on {between = between_too} next more) comes goes =
        let same : between_too ≡ between =
        sym (copy_once ladder base tag one other both apart before between between_too false false false false copy next
        (comes_on between now one (cut_copies_come ladder base tag limit rest) comes)
        (comes_on between_too now_too other (cut_copies_come ladder base tag limit more) goes)).same_past in
        cut_copies_once rest (subst (λ (past : List Entry). CutCopies ladder base tag limit past now_too) same more) comes goes

    cut_rounds_once : {before now now_too : List Entry} → CutRound ladder base tag limit before now →
        CutRound ladder base tag limit before now_too → ComesTo now one → ComesTo now_too other → now ≡ now_too
    cut_rounds_once (at_pick same may full) (at_pick same_too may_too full_too) comes goes = same ∙ sym same_too
    cut_rounds_once {before} {now} {now_too} (at_pick same may full) (picked {sb = sb} might cut) comes goes =
        absurd (none_or_found (has_step_room limit before) full
        (entry_found other found_too before (Kind.Pick sb)
        (comes_on (entry_of tag (Kind.Pick sb) ∷ before) now_too other (cut_copies_come ladder base tag limit cut) goes)))
    cut_rounds_once (at_pick same may full) (took may_not cut) comes goes = absurd (false≢true (sym may_not ∙ may))
    cut_rounds_once {before} {now} {now_too} (picked {sb = sb} may cut) (at_pick same might full) comes goes =
        absurd (none_or_found (has_step_room limit before) full
        (entry_found one found before (Kind.Pick sb)
        (comes_on (entry_of tag (Kind.Pick sb) ∷ before) now one (cut_copies_come ladder base tag limit cut) comes)))
    cut_rounds_once {before} {now} {now_too} (picked {sb = sb} may cut) (picked {sb = named} might more) comes goes =
        let came = comes_on (entry_of tag (Kind.Pick sb) ∷ before) now one (cut_copies_come ladder base tag limit cut) comes in
        let went =
        comes_on (entry_of tag (Kind.Pick named) ∷ before) now_too other (cut_copies_come ladder base tag limit more) goes in
        let meets : AreRivals (ladder before) base before tag (Kind.Pick sb) (Kind.Pick named) =
        rivals ladder base tag one other both before (Kind.Pick sb) (Kind.Pick named) came went in
        let blocks : named ≡ sb = sym (meets.same_choice.same_pick sb named refl refl) in
        cut_copies_once cut
        (subst (λ (n : ℕ). CutCopies ladder base tag limit (entry_of tag (Kind.Pick n) ∷ before) now_too) blocks more) comes
        goes
    cut_rounds_once (picked may cut) (took may_not more) comes goes = absurd (false≢true (sym may_not ∙ may))
    cut_rounds_once (took may_not cut) (at_pick same may full) comes goes = absurd (false≢true (sym may_not ∙ may))
    cut_rounds_once (took may_not cut) (picked may more) comes goes = absurd (false≢true (sym may_not ∙ may))
    cut_rounds_once (took may_not cut) (took may_not_too more) comes goes = cut_copies_once cut more comes goes

    -- not one round is whole, and the other cut
    whole_or_cut : (before now between : List Entry) (end : RoundEnd) → SerialRound ladder base tag before between end →
        CutRound ladder base tag limit before now → ComesTo between one → ComesTo now other → ⊥
    whole_or_cut before now between end round cut came goes =
        cut_or_rounded other one both_back apart_too found cut round goes came

    pub cut_writes_once : (row : ℕ) {before now now_too : List Entry} → CutWrite ladder base tag limit row before now →
        CutWrite ladder base tag limit row before now_too → ComesTo now one → ComesTo now_too other → now ≡ now_too
    cut_writes_once row (at_write same needs_none full) (at_write same_too needs_none_too full_too) comes goes =
        same ∙ sym same_too
    cut_writes_once row {before} {now} {now_too} (at_write same needs_none full)
        (wrote_again {slot = slot} {die = die} room cut) comes goes =
        absurd (none_or_found (has_step_room limit before) full
        (entry_found other found_too before (Kind.BadWrite row slot die false)
        (comes_on (entry_of tag (Kind.BadWrite row slot die false) ∷ before) now_too other
        (cut_write_comes ladder base tag limit cut) goes)))
    cut_writes_once row (at_write same needs_none full) (in_round needs cut) comes goes = absurd (needs_none needs)
    cut_writes_once row (at_write same needs_none full) (made_room_on needs round faultless cut) comes goes =
        absurd (needs_none needs)
    cut_writes_once row {before} {now} {now_too} (wrote_again {slot = slot} {die = die} room cut)
        (at_write same needs_none full) comes goes =
        absurd (none_or_found (has_step_room limit before) full
        (entry_found one found before (Kind.BadWrite row slot die false)
        (comes_on (entry_of tag (Kind.BadWrite row slot die false) ∷ before) now one
        (cut_write_comes ladder base tag limit cut) comes)))
    cut_writes_once row {before} {now} {now_too} (wrote_again {slot = slot} {die = die} room cut)
        (wrote_again {slot = named} {die = failing} room_too more) comes goes =
        let meets : AreRivals (ladder before) base before tag (Kind.BadWrite row slot die false)
        (Kind.BadWrite row named failing false) =
        rivals ladder base tag one other both before (Kind.BadWrite row slot die false) (Kind.BadWrite row named failing false)
        (comes_on (entry_of tag (Kind.BadWrite row slot die false) ∷ before) now one
        (cut_write_comes ladder base tag limit cut) comes)
        (comes_on (entry_of tag (Kind.BadWrite row named failing false) ∷ before) now_too other
        (cut_write_comes ladder base tag limit more) goes) in
        let same : IsSameProgram base before slot named die failing false false =
        failed_once base before slot named die failing false false refl meets.first_meets.is_failed
        meets.second_meets.is_failed in
        let kinds : Kind.BadWrite row named failing false ≡ Kind.BadWrite row slot die false =
        λ i. Kind.BadWrite row (sym same.same_slot i) (sym same.same.same_die i) false in
        cut_writes_once row cut
        (subst (λ (kind : Kind). CutWrite ladder base tag limit row (entry_of tag kind ∷ before) now_too) kinds more) comes goes
    cut_writes_once row {before} (wrote_again room cut) (in_round needs more) comes goes =
        absurd (room_or_needs (has_host_room base before) (is_worn base before) (is_full base before) room needs)
    cut_writes_once row {before} (wrote_again room cut) (made_room_on needs round faultless more) comes goes =
        absurd (room_or_needs (has_host_room base before) (is_worn base before) (is_full base before) room needs)
    cut_writes_once row (in_round needs cut) (at_write same needs_none full) comes goes = absurd (needs_none needs)
    cut_writes_once row {before} (in_round needs cut) (wrote_again room more) comes goes =
        absurd (room_or_needs (has_host_room base before) (is_worn base before) (is_full base before) room needs)
    cut_writes_once row (in_round needs cut) (in_round needs_too more) comes goes = cut_rounds_once cut more comes goes
    cut_writes_once row {before} {now} {now_too} (in_round needs cut)
        (made_room_on {between = between} {end = end} needs_too round faultless more) comes goes =
        absurd (cut_or_rounded one other both apart found_too cut round comes
        (comes_on between now_too other (cut_write_comes ladder base tag limit more) goes))
    cut_writes_once row (made_room_on needs round faultless cut) (at_write same needs_none full) comes goes =
        absurd (needs_none needs)
    cut_writes_once row {before} (made_room_on needs round faultless cut) (wrote_again room more) comes goes =
        absurd (room_or_needs (has_host_room base before) (is_worn base before) (is_full base before) room needs)
    cut_writes_once row {before} {now} {now_too} (made_room_on {between = between} {end = end} needs round faultless cut)
        (in_round needs_too more) comes goes =
        absurd (whole_or_cut before now_too between end round more
        (comes_on between now one (cut_write_comes ladder base tag limit cut) comes) goes)
    cut_writes_once row {before} {now} {now_too} (made_room_on {between = between} {end = end} needs round faultless cut)
        (made_room_on {between = between_too} {end = last} needs_too turn faultless_too more) comes goes =
        let same : IsSameEnd between between_too end last =
        rounds_once ladder base tag one other both apart round turn
        (comes_on between now one (cut_write_comes ladder base tag limit cut) comes)
        (comes_on between_too now_too other (cut_write_comes ladder base tag limit more) goes) in
        cut_writes_once row cut
        (subst (λ (past : List Entry). CutWrite ladder base tag limit row past now_too) (sym same.same_past) more) comes goes

    -- the past before a note that was made is on the way
    noted_comes : (note : Kind) (between now final : List Entry) →
        CutCollect ladder base tag limit (entry_of tag note ∷ between) now → ComesTo now final →
        ComesTo (entry_of tag note ∷ between) final
    noted_comes note between now final cut comes =
        comes_on (entry_of tag note ∷ between) now final (cut_collect_comes ladder base tag limit cut) comes

    pub cut_collects_once : {before now now_too : List Entry} → CutCollect ladder base tag limit before now →
        CutCollect ladder base tag limit before now_too → ComesTo now one → ComesTo now_too other → now ≡ now_too
    cut_collects_once (in_turn cut) (in_turn more) comes goes = cut_rounds_once cut more comes goes
    cut_collects_once (in_turn cut) (at_note round full) comes goes =
        absurd (cut_or_rounded one other both apart found_too cut round comes goes)
    cut_collects_once {before} {now} {now_too} (in_turn cut)
        (noted {between = between} {note = note} round is busy more) comes goes =
        absurd (cut_or_rounded one other both apart found_too cut round comes
        (comes_before (entry_of tag note) between other (noted_comes note between now_too other more goes)))
    cut_collects_once {before} {now} {now_too} (at_note round full) (in_turn more) comes goes =
        absurd (whole_or_cut before now_too now left round more comes goes)
    cut_collects_once {before} {now} {now_too} (at_note round full) (at_note turn full_too) comes goes =
        same_left one other both apart found_too before now now_too round turn comes goes
    cut_collects_once {before} {now} {now_too} (at_note round full)
        (noted {between = between} {note = note} turn is busy more) comes goes =
        absurd (note_found one other both apart found_too before now between note round turn is full comes
        (noted_comes note between now_too other more goes))
    cut_collects_once {before} {now} {now_too} (noted {between = between} {note = note} round is busy cut) (in_turn more) comes
        goes =
        absurd (whole_or_cut before now_too between left round more
        (comes_before (entry_of tag note) between one (noted_comes note between now one cut comes)) goes)
    cut_collects_once {before} {now} {now_too} (noted {between = between} {note = note} round is busy cut)
        (at_note turn full) comes goes =
        absurd (note_found other one both_back apart_too found before now_too between note turn round is full goes
        (noted_comes note between now one cut comes))
    cut_collects_once {before} {now} {now_too} (noted {between = between} {note = note} round is busy cut)
        (noted {between = after} {note = named} turn is_too busy_too more) comes goes =
        let came = noted_comes note between now one cut comes in
        let went = noted_comes named after now_too other more goes in
        let same : between ≡ after =
        same_left one other both apart found_too before between after round turn
        (comes_before (entry_of tag note) between one came) (comes_before (entry_of tag named) after other went) in
        let notes : note ≡ named = notes_are one other both apart found_too between after note named same is is_too came went in
        let pasts : ◌≡◌ {A = List Entry} (entry_of tag named ∷ after) (entry_of tag note ∷ between) =
        λ i. entry_of tag (sym notes i) ∷ sym same i in
        cut_collects_once cut (subst (λ (past : List Entry). CutCollect ladder base tag limit past now_too) pasts more) comes
        goes
