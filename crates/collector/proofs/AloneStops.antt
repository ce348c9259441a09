-- A write and a collect of a caller that is alone, which the history refused an entry, were cut there: at the step that found no
-- room a call that is served alone would go on with an entry that asks for as much. Where memory was refused, they would go on
-- with some entry.
use Rattle.std.proofs.Common.{◌≡◌, ℕ, ◌+◌, ◌*◌, ◌≤◌, nat_le, Bool, true, false, List, [], ◌∷◌, ◌++◌, length, refl, sym, ap, subst, ◌∙◌, append_assoc, inl, inr, arith}
use Rattle.std.specs.Prelude.{Result, Ok, Err, None, Some, ◌⊎◌, ⊤}
use Rattle.std.proofs.lemmas.Bool.Decides.{nat_tests}
use Rattle.chan_calls.specs.Caller.{CallerView, HasLookRoom, HasStepRoom}
use Rattle.chan_calls.specs.Collecting.{MakesErase, MakesNote, MakesPick}
use Rattle.chan_calls.specs.Copied.{CopiesAloneAreCopies}
use Rattle.chan_calls.specs.Stepping.{IsStepped, MakesWrite}
use Rattle.chan_calls.proofs.SensedSteps.{is_seen}
use Rattle.chan_state.specs.declared.answers.EraseAnswer.{EraseAnswer}
use Rattle.chan_state.specs.declared.answers.PickAnswer.{PickAnswer}
use Rattle.chan_state.specs.declared.answers.PickAnswer.TheVariants as pick
use Rattle.chan_state.specs.declared.answers.WriteAnswer.TheVariants as write
use Rattle.chan_tables.specs.declared.answers.Note.{Note}
use Rattle.ssd_geo.specs.Coding.{coding_of}
use Rattle.ssd_geo.specs.Ladder.{LadderState}
use Rattle.ssd_geo.specs.declared.entry.Entry.{Entry}
use Rattle.ssd_geo.specs.declared.kind.Kind.{Kind}
use Rattle.ssd_geo.specs.declared.stop.StepStop.{StepStop}
use Rattle.ssd_geo.specs.declared.tag.Tag.{Tag}
use Rattle.ssd_histories.specs.History.{open_looks}
use Rattle.ssd_histories.specs.HistoryRoom.{has_look_room, has_room_for, has_step_room}
use Rattle.ssd_histories.specs.Lawful.{IsLawful}
use Rattle.ssd_histories.specs.PastPages.{ladder_of}
use Rattle.ssd_histories.specs.Room.{victim_of}
use Rattle.ssd_histories.specs.Rounds.{needs_room}
use Rattle.ssd_histories.specs.SerialCalls.{SerialCollect, SerialCopies, SerialRound, SerialWrite, decides, entry_of, faulted, is_idle, left, picks, round_faults, takes}
use Rattle.ssd_histories.specs.SerialStop.{IsCut}
use Rattle.ssd_histories.specs.Start.{Start}
use Rattle.serial_laws.proofs.CutRounds.{IsCutCollect, IsCutWrite, MayFault, collect_is_cut, may_fault, no_look_room, write_is_cut}
use Rattle.collector.specs.Alone.{IsRoundAlone}
use Rattle.collector.specs.Collects.{HasNoted, MakesCollectFor, MakesTurnFor}
use Rattle.collector.specs.Emptying.{CopiesPages, EmptiesFor, EndsRound, IsToErase, LooksLive, OfBase, by_copy, by_erase, having_seen, no_victim, result_of_erase, stops}
use Rattle.collector.specs.Rounds.{FollowsPick, HasPicked, IsToPick, MakesRoundFor}
use Rattle.collector.specs.Stops.{CollectsAloneBreakOff, CollectsAloneStopAsCuts, IsBrokenOff, WritesAloneBreakOff, WritesAloneStopAsCuts}
use Rattle.collector.specs.Writes.{HasMadeRoom, IsToWrite, MakesWriteFor, TurnsWriteFor}
use Rattle.collector.specs.declared.replies.RoundReply.{RoundReply}
use Rattle.collector.specs.declared.replies.RoundReply.TheVariants as round
use Rattle.collector.proofs.AloneRounds.{Stands, found_none, may_not_busy, no_stop, none_open_on, round_alone, stands_on, then_decides, then_ends}
use Rattle.collector.proofs.AloneWrites.{none_open_on as none_open_in_writes, then_ends as then_ends_write, wrote}
use Rattle.collector.proofs.GrownPasts.{Grows, end_grows, emptying_grows, is_same, lawful_within, noted_grows, noting_grows, over, pages_grow, picked_grows, rounds_grow, writes_often_grow, writing_grows}
use Rattle.collector.proofs.KeptVictims.{picked_is_victim}

-- a past found no room, by what a step told and by the tests of a history
no_step_room : (limit caller_limit : ℕ) (past : List Entry) → caller_limit ≡ limit → ¬ HasStepRoom caller_limit past →
    has_step_room limit past ≡ false
no_step_room limit caller_limit past same none =
    by_test (has_step_room limit past) refl
  where
    by_test : (b : Bool) → has_step_room limit past ≡ b → has_step_room limit past ≡ false
    by_test false e = e
    by_test true e = absurd (none (fits (length past) (length (open_looks past)) e))
      where
        fits : (entries looks : ℕ) → nat_le (entries + 256 * looks + 1) limit ≡ true → entries + (256 * looks + 1) ≤ caller_limit
        fits entries looks room = grind (arith, nat_tests, same)

no_room_for_look : (limit caller_limit : ℕ) (past : List Entry) → caller_limit ≡ limit → ¬ HasLookRoom caller_limit past →
    has_look_room limit past ≡ false
no_room_for_look limit caller_limit past same none =
    by_test (has_look_room limit past) refl
  where
    fits : (entries looks : ℕ) → nat_le (entries + 256 * (looks + 1)) limit ≡ true → entries + 256 * (looks + 1) ≤ caller_limit
    fits entries looks room = grind (arith, nat_tests, same)

    by_test : (b : Bool) → has_look_room limit past ≡ b → has_look_room limit past ≡ false
    by_test false e = e
    by_test true e = absurd (none (fits (length past) (length (open_looks past)) e))

-- which stop an Err has
abbrev stop_or : StepStop → Result RoundReply StepStop → StepStop
stop_or other (Ok reply) = other
stop_or other (Err stop) = stop

err_is : (a b : StepStop) → ◌≡◌ {A = Result RoundReply StepStop} (Err a) (Err b) → a ≡ b
err_is a b e = ap (stop_or a) e

-- why a step was refused behind a past: the history, of the length that was told, hasn't this room; or memory was refused
abbrev IsWhy : StepStop → Bool → List Entry → Type 0
IsWhy (StepStop.HistoryFull told) room past = (room ≡ false) × (length past ≡ told)
IsWhy StepStop.Memory room past = ⊤

-- behind a past without room for a step there is none for a look
no_look_too : (limit : ℕ) (past : List Entry) (stop : StepStop) → IsWhy stop (has_step_room limit past) past →
    IsWhy stop (has_look_room limit past) past
no_look_too limit past (StepStop.HistoryFull told) why = (no_look_room limit past why.0, why.1)
no_look_too limit past StepStop.Memory why = tt

-- a limit under which no past has room
never_room : (past : List Entry) → has_step_room 0 past ≡ false
never_room past = too_long (length past) (length (open_looks past))
  where
    too_long : (entries looks : ℕ) → nat_le (entries + 256 * looks + 1) 0 ≡ false
    too_long entries looks = grind (arith, nat_tests)

module _ (start : Start) (contents : List (Tag × List ℕ)) (caller : CallerView) (tag : Tag)
    (copies_are : CopiesAloneAreCopies) (alone : caller.number ≡ None) (limit_is : caller.limit ≡ start.limit) where
  abbrev ladder : List Entry → ℕ → LadderState
  ladder = ladder_of (coding_of start.base) start contents

  -- a step outside a look was refused upon what the caller had seen
  record IsRefused (before now : List Entry) (stop : StepStop) : Type 0 where
    is_same : now ≡ before
    why : IsWhy stop (has_step_room start.limit before) before

  refused : {A : Type 0} (makes : List Entry → A → List Entry → Type 0) (before now : List Entry) (stop : StepStop) →
      IsStepped HasStepRoom makes tag (having_seen caller before) (having_seen caller now) (Err stop) → IsRefused before now stop
  refused makes before now (StepStop.HistoryFull told) tried =
      let seen : tried.0 ≡ before = is_seen caller tag alone before tried.0 tried.1 in
      record {
        is_same = tried.4 ∙ seen;
        why = (
          no_step_room start.limit caller.limit before limit_is
              (subst (λ (past : List Entry). ¬ HasStepRoom caller.limit past) seen tried.2),
          sym (tried.3 ∙ ap (λ (past : List Entry). length past) seen),
        );
      }
  refused makes before now StepStop.Memory tried = record {
    is_same = tried.3 ∙ is_seen caller tag alone before tried.0 tried.1;
    why = tt;
  }

  -- a step that wants a look's room was refused, or one behind it
  record IsFullAt (before now : List Entry) (stop : StepStop) : Type 0 where
    is_same : now ≡ before
    why : IsWhy stop (has_look_room start.limit before) before

  module _ (sb : ℕ) (before now : List Entry) (stop : StepStop) where
    erase_full : (emptied : List Entry) (erasing : Result EraseAnswer StepStop) → emptied ≡ before →
        IsToErase start.base caller tag sb emptied now erasing →
        ◌≡◌ {A = Result RoundReply StepStop} (Err stop) (result_of_erase sb erasing) → IsFullAt before now stop
    erase_full emptied (Ok answer) same tried is = absurd (no_stop _ stop (sym is))
    erase_full emptied (Err found) same tried is =
        let full : IsRefused emptied now found = refused (MakesErase (OfBase start.base) tag sb) emptied now found tried in
        subst (λ (past : List Entry). IsFullAt past now stop) same
        (subst (λ (other : StepStop). IsFullAt emptied now other) (sym (err_is stop found is)) (record {
          is_same = full.is_same;
          why = no_look_too start.limit emptied found full.why;
        }))

    look_full : (found : StepStop) → LooksLive start.base caller tag sb before now (Err found) → IsFullAt before now found
    look_full (StepStop.HistoryFull told) looks =
        let seen : looks.0 ≡ before = is_seen caller tag alone before looks.0 looks.1 in
        record {
          is_same = looks.4 ∙ seen;
          why = (
            no_room_for_look start.limit caller.limit before limit_is
                (subst (λ (past : List Entry). ¬ HasLookRoom caller.limit past) seen looks.2),
            sym (looks.3 ∙ ap (λ (past : List Entry). length past) seen),
          );
        }
    look_full StepStop.Memory looks = record {
      is_same = looks.3 ∙ is_seen caller tag alone before looks.0 looks.1;
      why = tt;
    }

    ends_full : EndsRound start contents caller tag sb before now (Err stop) → IsFullAt before now stop
    ends_full (by_copy page ends is) = absurd (no_stop _ stop (sym is))
    ends_full (no_victim looks is) = absurd (no_stop round.Left stop (sym is))
    ends_full (by_erase emptied erasing looks tried is) =
        erase_full emptied erasing (found_none start contents caller tag copies_are alone sb before emptied looks).0 tried is
    ends_full (stops found looks is) =
        subst (λ (other : StepStop). IsFullAt before now other) (sym (err_is stop found is)) (look_full found looks)

  -- copies that were cut, and a round
  record AreCutCopies (before now : List Entry) (stop : StepStop) : Type 0 where
    next : Kind
    later : List Entry
    why : IsWhy stop (has_room_for start.limit now next) now
    whole : SerialCopies ladder start.base tag before (later ++ entry_of tag next ∷ now) faulted
    none_open : open_looks now ≡ []

  record IsCutRound (before now : List Entry) (stop : StepStop) : Type 0 where
    next : Kind
    later : List Entry
    why : IsWhy stop (has_room_for start.limit now next) now
    whole : SerialRound ladder start.base tag before (later ++ entry_of tag next ∷ now) faulted
    none_open : open_looks now ≡ []

  emptied_stops : (sb : ℕ) (before now : List Entry) (stop : StepStop) →
      Stands start contents caller tag copies_are alone sb before → IsLawful start contents now →
      EmptiesFor start contents caller tag sb before now (Err stop) → AreCutCopies before now stop
  emptied_stops sb before now stop stands lawful empties =
      let copied : List Entry = empties.copied in
      let there : IsLawful start contents copied =
      lawful_within ladder start.base copied now
      (end_grows start contents caller tag sb copied now (Err stop) empties.ends) lawful in
      let still = stands_on start contents caller tag copies_are alone sb empties.copies there stands in
      let full : IsFullAt copied now stop = ends_full sb copied now stop empties.ends in
      let fault : MayFault ladder start.base tag copied = may_fault ladder start.base tag copied sb still.victim_is in
      subst (λ (past : List Entry). AreCutCopies before past stop) (sym full.is_same) (record {
        next = fault.next;
        later = fault.later;
        why = subst (λ (room : Bool). IsWhy stop room copied) (sym (fault.asks_look start.limit)) full.why;
        whole = then_ends start contents caller tag copies_are alone sb empties.copies fault.copies;
        none_open = still.none_open;
      })

  follows_stop : (before picked now : List Entry) (answer : PickAnswer) (stop : StepStop) → open_looks before ≡ [] →
      IsLawful start contents now → MakesPick (OfBase start.base) tag before answer picked →
      FollowsPick start contents caller tag answer picked now (Err stop) → IsCutRound before now stop
  follows_stop before picked now (pick.Busy sb) stop none lawful made follow =
      let cut : AreCutCopies before now stop =
      emptied_stops sb before now stop (record { none_open = none; victim_is = made.1 }) lawful
      (subst (λ (past : List Entry). EmptiesFor start contents caller tag sb past now (Err stop)) made.0 follow) in
      record {
        next = cut.next;
        later = cut.later;
        why = cut.why;
        whole = takes (may_not_busy start contents caller tag copies_are alone sb before made.1) cut.whole;
        none_open = cut.none_open;
      }
  follows_stop before picked now pick.ReadOnly stop none lawful made follow = absurd (no_stop round.Left stop (sym follow.1))
  follows_stop before picked now pick.NoGarbage stop none lawful made follow = absurd (no_stop round.Left stop (sym follow.1))
  follows_stop before picked now (pick.Picked sb) stop none lawful made follow =
      let after_pick : List Entry = entry_of tag (Kind.Pick sb) ∷ before in
      let empties : EmptiesFor start contents caller tag sb after_pick now (Err stop) =
      subst (λ (past : List Entry). EmptiesFor start contents caller tag sb past now (Err stop)) made.0 follow in
      let there : IsLawful start contents after_pick =
      lawful_within ladder start.base after_pick now
      (emptying_grows start contents caller tag sb after_pick now (Err stop) empties) lawful in
      let cut : AreCutCopies after_pick now stop =
      emptied_stops sb after_pick now stop
      (record { none_open = none; victim_is = picked_is_victim ladder start.base tag sb before there }) lawful empties in
      record {
        next = cut.next;
        later = cut.later;
        why = cut.why;
        whole = picks made.1 cut.whole;
        none_open = cut.none_open;
      }

  -- a round stops at its pick, or was cut behind it
  round_stops : (before now : List Entry) (stop : StepStop) → open_looks before ≡ [] → IsLawful start contents now →
      MakesRoundFor start contents caller tag before now (Err stop) → IsRefused before now stop ⊎ IsCutRound before now stop
  round_stops before now stop none lawful (inl tried) =
      inl (refused (MakesPick (OfBase start.base) tag) before now stop tried)
  round_stops before now stop none lawful (inr picked) =
      inr (follows_stop before picked.picked now picked.answer stop none lawful
      (subst (λ (past : List Entry). MakesPick (OfBase start.base) tag past picked.answer picked.picked)
      (is_seen caller tag alone before picked.picks.0 picked.picks.1) picked.picks.3) picked.follows)

  round_grows : (before now : List Entry) (stop : StepStop) → MakesRoundFor start contents caller tag before now (Err stop) →
      Grows before now
  round_grows before now stop (inl tried) =
      is_same before now (refused (MakesPick (OfBase start.base) tag) before now stop tried).is_same
  round_grows before now stop (inr picked) = picked_grows start contents caller tag before now (Err stop) picked

  -- the last turn of a write
  record IsCutTurn (row : ℕ) (before now : List Entry) (stop : StepStop) : Type 0 where
    next : Kind
    later : List Entry
    why : IsWhy stop (has_room_for start.limit now next) now
    whole : SerialWrite ladder start.base tag row before (later ++ entry_of tag next ∷ now)
    none_open : open_looks now ≡ []
    grows : Grows before now

  -- a whole write that was cut, and a whole collect
  record IsCutAt (fact : List Entry → List Entry → Type 0) (before now : List Entry) (stop : StepStop) : Type 0 where
    made : List Entry
    next : Kind
    later : List Entry
    begins : now ≡ made ++ before
    why : IsWhy stop (has_room_for start.limit now next) now
    whole : fact before (later ++ entry_of tag next ∷ now)
    none_open : open_looks now ≡ []

  module _ (row : ℕ) where
    refused_there : (before : List Entry) (stop : StepStop) → open_looks before ≡ [] →
        IsWhy stop (has_step_room start.limit before) before → IsCutTurn row before before stop
    refused_there before (StepStop.HistoryFull told) none why =
        let cut : IsCutWrite ladder start.base tag row start.limit before =
        write_is_cut ladder start.base tag row start.limit before why.0 in
        record {
          next = cut.next;
          later = cut.later;
          why = (cut.no_room, why.1);
          whole = cut.whole;
          none_open = none;
          grows = is_same before before refl;
        }
    refused_there before StepStop.Memory none why =
        let cut : IsCutWrite ladder start.base tag row 0 before =
        write_is_cut ladder start.base tag row 0 before (never_room before) in
        record {
          next = cut.next;
          later = cut.later;
          why = tt;
          whole = cut.whole;
          none_open = none;
          grows = is_same before before refl;
        }

    refused_write : (before now : List Entry) (stop : StepStop) → open_looks before ≡ [] → IsRefused before now stop →
        IsCutTurn row before now stop
    refused_write before now stop none there =
        subst (λ (past : List Entry). IsCutTurn row before past stop) (sym there.is_same) (refused_there before stop none there.why)

    turn_stops : (before now : List Entry) (stop : StepStop) → open_looks before ≡ [] → IsLawful start contents now →
        TurnsWriteFor start contents caller tag row before now (Err stop) → IsCutTurn row before now stop
    turn_stops before now stop none lawful (inl tried) =
        refused_write before now stop none (refused (MakesWrite (OfBase start.base) tag row) before now stop tried)
    turn_stops before now stop none lawful (inr made) =
        let tried = wrote start contents caller tag copies_are alone row before made.needed write.NeedRoom made.tried in
        let rounds : MakesRoundFor start contents caller tag before now (Err stop) =
        subst (λ (past : List Entry). MakesRoundFor start contents caller tag past now (Err stop)) tried.0 made.round in
        elim (round_stops before now stop none lawful rounds) [
          | inl there ↦ refused_write before now stop none there
          | inr cut ↦ record {
            next = cut.next;
            later = cut.later;
            why = cut.why;
            whole = round_faults tried.1 cut.whole;
            none_open = cut.none_open;
            grows = round_grows before now stop rounds;
          }
        ]

    write_stops : (before now : List Entry) (stop : StepStop) → open_looks before ≡ [] → IsLawful start contents now →
        MakesWriteFor start contents caller tag row before now (Err stop) →
        IsCutAt (SerialWrite ladder start.base tag row) before now stop
    write_stops before now stop none lawful made =
        let last_grows : Grows made.between now = turn_grows made.between now stop made.last in
        let there : IsLawful start contents made.between = lawful_within ladder start.base made.between now last_grows lawful in
        let cut : IsCutTurn row made.between now stop =
        turn_stops made.between now stop
        (none_open_in_writes start contents caller tag copies_are alone row made.turns none there) lawful made.last in
        let grows : Grows before now =
        over before made.between now (writes_often_grow start contents caller tag row made.turns) cut.grows in
        record {
          made = grows.more;
          next = cut.next;
          later = cut.later;
          begins = grows.after_is;
          why = cut.why;
          whole =
              then_ends_write start contents caller tag copies_are alone row (cut.later ++ entry_of tag cut.next ∷ now) made.turns none
              there cut.whole;
          none_open = cut.none_open;
        }
      where
        turn_grows : (before now : List Entry) (stop : StepStop) →
            TurnsWriteFor start contents caller tag row before now (Err stop) → Grows before now
        turn_grows before now stop (inl tried) =
            is_same before now (refused (MakesWrite (OfBase start.base) tag row) before now stop tried).is_same
        turn_grows before now stop (inr made) =
            over before made.needed now
            (writing_grows start contents caller tag row before made.needed (Ok write.NeedRoom) made.tried)
            (round_grows made.needed now stop made.round)

  -- the last turn of a collect
  record IsCutRest (before now : List Entry) (stop : StepStop) : Type 0 where
    next : Kind
    later : List Entry
    why : IsWhy stop (has_room_for start.limit now next) now
    whole : SerialCollect ladder start.base tag before (later ++ entry_of tag next ∷ now)
    none_open : open_looks now ≡ []

  noted_stops : (before now : List Entry) (stop : StepStop) → open_looks before ≡ [] → IsLawful start contents now →
      HasNoted start contents caller tag before now (Err stop) → IsCutRest before now stop
  noted_stops before now stop none lawful noted =
      let there : IsLawful start contents noted.left =
      lawful_within ladder start.base noted.left now
      (noting_grows start contents caller tag noted.left now (Err stop) noted.notes) lawful in
      let made : IsRoundAlone start contents tag before noted.left round.Left =
      round_alone start contents caller tag copies_are alone before noted.left round.Left none there noted.round in
      let full : IsRefused noted.left now stop = refused (MakesNote tag) noted.left now stop noted.notes in
      subst (λ (past : List Entry). IsCutRest before past stop) (sym full.is_same) (record {
        next = Kind.Note 0 None 0 0 0;
        later = [];
        why = full.why;
        whole = is_idle made.is_round refl;
        none_open = made.none_open;
      })

  rest_stops : (before now : List Entry) (stop : StepStop) → open_looks before ≡ [] → IsLawful start contents now →
      MakesTurnFor start contents caller tag before now (Err stop) → IsCutRest before now stop
  rest_stops before now stop none lawful (inr noted) = noted_stops before now stop none lawful noted
  rest_stops before now stop none lawful (inl rounds) =
      elim (round_stops before now stop none lawful rounds) [
        | inl there ↦ subst (λ (past : List Entry). IsCutRest before past stop) (sym there.is_same) (refused_collect stop there.why)
        | inr cut ↦ record {
          next = cut.next;
          later = cut.later;
          why = cut.why;
          whole = decides cut.whole refl;
          none_open = cut.none_open;
        }
      ]
    where
      refused_collect : (found : StepStop) → IsWhy found (has_step_room start.limit before) before →
          IsCutRest before before found
      refused_collect (StepStop.HistoryFull told) why =
          let cut : IsCutCollect ladder start.base tag start.limit before =
          collect_is_cut ladder start.base tag start.limit before why.0 in
          record {
            next = cut.next;
            later = cut.later;
            why = (cut.no_room, why.1);
            whole = cut.whole;
            none_open = none;
          }
      refused_collect StepStop.Memory why =
          let cut : IsCutCollect ladder start.base tag 0 before =
          collect_is_cut ladder start.base tag 0 before (never_room before) in
          record {
            next = cut.next;
            later = cut.later;
            why = tt;
            whole = cut.whole;
            none_open = none;
          }

  rest_grows : (before now : List Entry) (stop : StepStop) → MakesTurnFor start contents caller tag before now (Err stop) →
      Grows before now
  rest_grows before now stop (inl rounds) = round_grows before now stop rounds
  rest_grows before now stop (inr noted) = noted_grows start contents caller tag before now (Err stop) noted

  collect_stops : (before now : List Entry) (stop : StepStop) → open_looks before ≡ [] → IsLawful start contents now →
      MakesCollectFor start contents caller tag before now (Err stop) →
      IsCutAt (SerialCollect ladder start.base tag) before now stop
  collect_stops before now stop none lawful made =
      let last_grows : Grows made.between now = rest_grows made.between now stop made.last in
      let there : IsLawful start contents made.between = lawful_within ladder start.base made.between now last_grows lawful in
      let cut : IsCutRest made.between now stop =
      rest_stops made.between now stop
      (none_open_on start contents caller tag copies_are alone made.rounds none there) lawful made.last in
      let grows : Grows before now = over before made.between now (rounds_grow start contents caller tag made.rounds) last_grows in
      record {
        made = grows.more;
        next = cut.next;
        later = cut.later;
        begins = grows.after_is;
        why = cut.why;
        whole = then_decides start contents caller tag copies_are alone made.rounds none there cut.whole;
        none_open = cut.none_open;
      }

  -- where the history had no room it was cut there, and where memory was refused it was broken off
  is_cut : (fact : List Entry → List Entry → Type 0) (before now : List Entry) (told : ℕ) →
      IsCutAt fact before now (StepStop.HistoryFull told) → IsCut fact start.limit told before now
  is_cut fact before now told cut = record {
    made = cut.made;
    next = entry_of tag cut.next;
    later = cut.later;
    begins = cut.begins;
    whole = cut.whole;
    has_length = cut.why.1;
    no_room = cut.why.0;
  }

  is_broken_off : (fact : List Entry → List Entry → Type 0) (before now : List Entry) →
      IsCutAt fact before now StepStop.Memory → IsBrokenOff fact before now
  is_broken_off fact before now cut = record {
    made = cut.made;
    later = cut.later ++ entry_of tag cut.next ∷ [];
    begins = cut.begins;
    whole =
        subst (λ (after : List Entry). fact before after) (sym (append_assoc cut.later (entry_of tag cut.next ∷ []) now)) cut.whole;
    none_open = cut.none_open;
  }

pub writes_stop_as_cuts : CopiesAloneAreCopies → WritesAloneStopAsCuts
writes_stop_as_cuts copies_are start contents caller tag row before now entries alone limit_is lawful none made =
    is_cut start contents caller tag copies_are alone limit_is (SerialWrite (ladder_of (coding_of start.base) start contents) start.base tag row)
    before now entries
    (write_stops start contents caller tag copies_are alone limit_is row before now (StepStop.HistoryFull entries) none lawful made)

pub collects_stop_as_cuts : CopiesAloneAreCopies → CollectsAloneStopAsCuts
collects_stop_as_cuts copies_are start contents caller tag before now entries alone limit_is lawful none made =
    is_cut start contents caller tag copies_are alone limit_is (SerialCollect (ladder_of (coding_of start.base) start contents) start.base tag)
    before now entries
    (collect_stops start contents caller tag copies_are alone limit_is before now (StepStop.HistoryFull entries) none lawful made)

pub writes_break_off : CopiesAloneAreCopies → WritesAloneBreakOff
writes_break_off copies_are start contents caller tag row before now alone limit_is lawful none made =
    is_broken_off start contents caller tag copies_are alone limit_is
    (SerialWrite (ladder_of (coding_of start.base) start contents) start.base tag row) before now
    (write_stops start contents caller tag copies_are alone limit_is row before now StepStop.Memory none lawful made)

pub collects_break_off : CopiesAloneAreCopies → CollectsAloneBreakOff
collects_break_off copies_are start contents caller tag before now alone limit_is lawful none made =
    is_broken_off start contents caller tag copies_are alone limit_is
    (SerialCollect (ladder_of (coding_of start.base) start contents) start.base tag) before now
    (collect_stops start contents caller tag copies_are alone limit_is before now StepStop.Memory none lawful made)
