-- The writes of a caller that is alone are those of calls that are served one after the other, and each round that one makes
-- adds an entry: where a write needs room, there is a victim or one may be picked.
use Rattle.std.proofs.Common.{◌≡◌, ℕ, ◌<◌, ◌==◌, ◌&&◌, ◌||◌, nat_le, not, Bool, true, false, List, [], Option, Some, None, refl, sym, ap, subst, ◌∙◌, arith}
use Rattle.std.specs.Prelude.{Result, Ok, Err, is_none}
use Rattle.std.proofs.lemmas.Bool.{false≢true, or_left, or_right}
use Rattle.std.proofs.lemmas.Bool.Decides.{nat_tests}
use Rattle.std.proofs.lemmas.Option.{none-some}
use Rattle.chan_calls.specs.Caller.{CallerView, HasStepRoom}
use Rattle.chan_calls.specs.Collecting.{MakesErase, MakesPick}
use Rattle.chan_calls.specs.Copied.{CopiesAloneAreCopies}
use Rattle.chan_calls.specs.Stepping.{MakesWrite}
use Rattle.chan_calls.proofs.SensedSteps.{is_seen}
use Rattle.chan_state.specs.declared.answers.EraseAnswer.{EraseAnswer}
use Rattle.chan_state.specs.declared.answers.EraseAnswer.TheVariants as erase
use Rattle.chan_state.specs.declared.answers.PickAnswer.{PickAnswer}
use Rattle.chan_state.specs.declared.answers.PickAnswer.TheVariants as pick
use Rattle.chan_state.specs.declared.answers.WriteAnswer.{WriteAnswer}
use Rattle.chan_state.specs.declared.answers.WriteAnswer.TheVariants as write
use Rattle.ssd_geo.specs.Coding.{coding_of}
use Rattle.ssd_geo.specs.Ladder.{LadderState}
use Rattle.ssd_geo.specs.declared.entry.Entry.{Entry}
use Rattle.ssd_geo.specs.declared.stop.StepStop.{StepStop}
use Rattle.ssd_geo.specs.declared.tag.Tag.{Tag}
use Rattle.ssd_histories.specs.History.{open_looks}
use Rattle.ssd_histories.specs.Lawful.{IsLawful}
use Rattle.ssd_histories.specs.PastPages.{ladder_of}
use Rattle.ssd_histories.specs.Room.{count_of_free, count_of_garbage, has_host_room, is_full, is_worn, live_of, victim_of}
use Rattle.ssd_histories.specs.Rounds.{needs_room}
use Rattle.ssd_histories.specs.SerialCalls.{SerialWrite, is_faultless, is_refused, makes_room, round_faults, write_faults, writes, writes_again}
use Rattle.ssd_histories.specs.Start.{Start}
use Rattle.collector.specs.Alone.{IsRoundAlone, IsWriteAlone, WritesAloneAreWrites, end_of}
use Rattle.collector.specs.Emptying.{CopiesPages, EmptiesFor, EndsRound, IsToErase, OfBase, by_copy, by_erase, no_victim, none_yet, one_more, result_of_erase, stops}
use Rattle.collector.specs.Rounds.{FollowsPick, HasPicked}
use Rattle.collector.specs.Writes.{EndsWrite, HasMadeRoom, IsToWrite, MakesWriteFor, WritesOften, WritesOn, by_fail, by_room, by_round, by_write, reply_of_round, reply_of_write}
use Rattle.collector.specs.Writes as turns
use Rattle.collector.specs.declared.replies.RoundReply.{RoundReply}
use Rattle.collector.specs.declared.replies.RoundReply.TheVariants as round
use Rattle.collector.specs.declared.replies.WriteReply.{WriteReply}
use Rattle.collector.proofs.AloneRounds.{Stands, found_none, no_stop, pinned, positive, round_alone, stands_on}
use Rattle.collector.proofs.GrownPasts.{Advances, Grows, advances_on, advances_then, emptying_grows, end_grows, ends_write_grow, lawful_within, page_advances, pages_grow, step_advances, writes_on_grow}

pub faultless_so : (reply : RoundReply) → reply_of_round reply ≡ None → is_faultless (end_of reply) ≡ true
faultless_so (round.Erased sb) e = refl
faultless_so (round.Retired sb) e = refl
faultless_so (round.DieFault die) e = absurd (none-some (WriteReply.DieFault die) (sym e))
faultless_so round.Left e = refl

module _ (start : Start) (contents : List (Tag × List ℕ)) (caller : CallerView) (tag : Tag)
    (copies_are : CopiesAloneAreCopies) (alone : caller.number ≡ None) (row : ℕ) where
  abbrev ladder : List Entry → ℕ → LadderState
  ladder = ladder_of (coding_of start.base) start contents

  -- what a write's step made, upon what the caller had seen
  pub wrote : (before after : List Entry) (answer : WriteAnswer) → IsToWrite start.base caller tag row before after (Ok answer) →
      MakesWrite (OfBase start.base) tag row before answer after
  wrote before after answer tried =
      subst (λ (past : List Entry). MakesWrite (OfBase start.base) tag row past answer after)
      (is_seen caller tag alone before tried.0 tried.1) tried.3

  -- a round that made room
  record IsRoomMade (before after : List Entry) (reply : RoundReply) : Type 0 where
    needs : needs_room start.base before ≡ true
    is_alone : IsRoundAlone start contents tag before after reply

  room_made : (before after : List Entry) (reply : RoundReply) → open_looks before ≡ [] → IsLawful start contents after →
      HasMadeRoom start contents caller tag row before after (Ok reply) → IsRoomMade before after reply
  room_made before after reply none lawful made =
      let tried = wrote before made.needed write.NeedRoom made.tried in
      record {
        needs = tried.1;
        is_alone =
            round_alone start contents caller tag copies_are alone before after reply none lawful
            (subst (λ (past : List Entry). HasPicked start contents caller tag past after (Ok reply)) tried.0 made.round);
      }

  -- a turn after which the write goes on
  record GoesOnAlone (before after : List Entry) : Type 0 where
    then_writes : (last : List Entry) → SerialWrite ladder start.base tag row after last →
        SerialWrite ladder start.base tag row before last
    none_open : open_looks after ≡ []

  goes_on_alone : (before after : List Entry) → open_looks before ≡ [] → IsLawful start contents after →
      WritesOn start contents caller tag row before after → GoesOnAlone before after
  goes_on_alone before after none lawful (by_fail sb tried) =
      let made = wrote before after (write.Failed sb) tried in
      record {
        then_writes = λ last rest.
            writes_again made.4 (subst (λ (past : List Entry). SerialWrite ladder start.base tag row past last) made.3 rest);
        none_open = ap open_looks made.3 ∙ none;
      }
  goes_on_alone before after none lawful (by_room reply made is) =
      let room : IsRoomMade before after reply = room_made before after reply none lawful made in
      record {
        then_writes = λ last rest. makes_room room.needs room.is_alone.is_round (faultless_so reply is) rest;
        none_open = room.is_alone.none_open;
      }

  ended_write : (before after : List Entry) (answer : WriteAnswer) (reply : WriteReply) → open_looks before ≡ [] →
      reply_of_write answer ≡ Some reply → MakesWrite (OfBase start.base) tag row before answer after →
      IsWriteAlone start contents tag row before after
  ended_write before after (write.Written slot) reply none is made =
      subst (λ (past : List Entry). IsWriteAlone start contents tag row before past) (sym made.0)
      (record { is_write = writes made.1; none_open = none })
  ended_write before after (write.DieFault die) reply none is made =
      subst (λ (past : List Entry). IsWriteAlone start contents tag row before past) (sym made.1)
      (record { is_write = write_faults made.2; none_open = none })
  ended_write before after write.ReadOnly reply none is made =
      subst (λ (past : List Entry). IsWriteAlone start contents tag row before past) (sym made.0)
      (record {
        is_write =
            is_refused made.1.0 (or_left (is_worn start.base before) (is_full start.base before) made.1.1);
        none_open = none;
      })
  ended_write before after write.Full reply none is made =
      subst (λ (past : List Entry). IsWriteAlone start contents tag row before past) (sym made.0)
      (record {
        is_write =
            is_refused made.1.0 (or_right (is_worn start.base before) (is_full start.base before) made.1.2);
        none_open = none;
      })
  ended_write before after (write.Failed sb) reply none is made = absurd (none-some reply is)
  ended_write before after write.NeedRoom reply none is made = absurd (none-some reply is)

  faulted_write : (before after : List Entry) (ended : RoundReply) (reply : WriteReply) →
      reply_of_round ended ≡ Some reply → IsRoomMade before after ended → IsWriteAlone start contents tag row before after
  faulted_write before after (round.DieFault die) reply is room =
      record { is_write = round_faults room.needs room.is_alone.is_round; none_open = room.is_alone.none_open }
  faulted_write before after (round.Erased sb) reply is room = absurd (none-some reply is)
  faulted_write before after (round.Retired sb) reply is room = absurd (none-some reply is)
  faulted_write before after round.Left reply is room = absurd (none-some reply is)

  ends_alone : (before after : List Entry) (reply : WriteReply) → open_looks before ≡ [] → IsLawful start contents after →
      EndsWrite start contents caller tag row before after reply → IsWriteAlone start contents tag row before after
  ends_alone before after reply none lawful (by_write answer tried is) =
      ended_write before after answer reply none is (wrote before after answer tried)
  ends_alone before after reply none lawful (by_round ended made is) =
      faulted_write before after ended reply is (room_made before after ended none lawful made)

  -- all turns before the last one
  pub none_open_on : {before after : List Entry} → WritesOften start contents caller tag row before after →
      open_looks before ≡ [] →
      IsLawful start contents after → open_looks after ≡ []
  none_open_on turns.none_yet none lawful = none
  none_open_on {before} {after} (turns.one_more {between = between} often on) none lawful =
      let grows : Grows between after = writes_on_grow start contents caller tag row between after on in
      (goes_on_alone between after
      (none_open_on often none (lawful_within ladder start.base between after grows lawful)) lawful on).none_open

  pub then_ends : {before between : List Entry} (after : List Entry) → WritesOften start contents caller tag row before between →
      open_looks before ≡ [] → IsLawful start contents between →
      SerialWrite ladder start.base tag row between after → SerialWrite ladder start.base tag row before after
  then_ends after turns.none_yet none lawful rest = rest
  then_ends {before} {between} after (turns.one_more {between = older} often on) none lawful rest =
      let grows : Grows older between = writes_on_grow start contents caller tag row older between on in
      let there : IsLawful start contents older = lawful_within ladder start.base older between grows lawful in
      then_ends after often none there
      ((goes_on_alone older between (none_open_on often none there) lawful on).then_writes after rest)

  write_alone : (before after : List Entry) (reply : WriteReply) → open_looks before ≡ [] → IsLawful start contents after →
      MakesWriteFor start contents caller tag row before after (Ok reply) → IsWriteAlone start contents tag row before after
  write_alone before after reply none lawful made =
      let there : IsLawful start contents made.between =
      lawful_within ladder start.base made.between after
      (ends_write_grow start contents caller tag row made.between after reply made.last) lawful in
      let last : IsWriteAlone start contents tag row made.between after =
      ends_alone made.between after reply (none_open_on made.turns none there) lawful made.last in
      record { is_write = then_ends after made.turns none there last.is_write; none_open = last.none_open }

  -- a round that a write makes adds an entry
  copies_advance : (sb : ℕ) {before copied : List Entry} → CopiesPages start contents caller tag sb before copied →
      (after : List Entry) → Grows copied after → (copied ≡ before → Advances caller.limit before after) →
      Advances caller.limit before after
  copies_advance sb none_yet after grows first = first refl
  copies_advance sb {before} {copied} (one_more {between = between} {reply = reply} copies page goes) after grows first =
      advances_then caller.limit before copied after grows
      (advances_on caller.limit before between copied (pages_grow start contents caller tag sb copies)
      (page_advances start contents caller tag sb between copied reply page))

  erase_advances : (sb : ℕ) (now after : List Entry) (answer : EraseAnswer) → HasStepRoom caller.limit now →
      Stands start contents caller tag copies_are alone sb now → live_of start.base now sb ≡ 0 →
      MakesErase (OfBase start.base) tag sb now answer after → Advances caller.limit now after
  erase_advances sb now after erase.NotVictim room stands none made = absurd (made.1 stands.victim_is)
  erase_advances sb now after (erase.Live count) room stands none made = absurd (positive count made.1 (made.2.1 ∙ none))
  erase_advances sb now after (erase.Pinned count) room stands none made =
      absurd (positive count made.1 (made.2.2 ∙ pinned now sb stands.none_open))
  erase_advances sb now after erase.Erased room stands none made = step_advances caller.limit _ now after room made.0
  erase_advances sb now after (erase.FailedErase die) room stands none made = step_advances caller.limit _ now after room made.0
  erase_advances sb now after (erase.DieFault die) room stands none made = step_advances caller.limit _ now after room made.0

  erasing_advances : (sb : ℕ) (before after : List Entry) (reply : RoundReply) (erasing : Result EraseAnswer StepStop) →
      Stands start contents caller tag copies_are alone sb before → live_of start.base before sb ≡ 0 →
      IsToErase start.base caller tag sb before after erasing →
      ◌≡◌ {A = Result RoundReply StepStop} (Ok reply) (result_of_erase sb erasing) → Advances caller.limit before after
  erasing_advances sb before after reply (Ok answer) stands none tried is =
      let seen : tried.0 ≡ before = is_seen caller tag alone before tried.0 tried.1 in
      erase_advances sb before after answer
      (subst (λ (past : List Entry). HasStepRoom caller.limit past) seen tried.2) stands none
      (subst (λ (past : List Entry). MakesErase (OfBase start.base) tag sb past answer after) seen tried.3)
  erasing_advances sb before after reply (Err stop) stands none tried is = absurd (no_stop reply stop is)

  end_advances : (sb : ℕ) (before after : List Entry) (reply : RoundReply) →
      Stands start contents caller tag copies_are alone sb before →
      EndsRound start contents caller tag sb before after (Ok reply) → Advances caller.limit before after
  end_advances sb before after reply stands (by_copy {reply = given} page ends is) =
      page_advances start contents caller tag sb before after given page
  end_advances sb before after reply stands (no_victim looks is) =
      absurd (looks.3.1 (subst (λ (past : List Entry). victim_of start.base past ≡ Some sb)
      (sym (is_seen caller tag alone before looks.0 looks.1)) stands.victim_is))
  end_advances sb before after reply stands (by_erase emptied erasing looks tried is) =
      let none = found_none start contents caller tag copies_are alone sb before emptied looks in
      erasing_advances sb before after reply erasing stands none.1
      (subst (λ (past : List Entry). IsToErase start.base caller tag sb past after erasing) none.0 tried) is
  end_advances sb before after reply stands (stops stop looks is) = absurd (no_stop reply stop is)

  emptying_advances : (sb : ℕ) (before after : List Entry) (reply : RoundReply) → IsLawful start contents after →
      Stands start contents caller tag copies_are alone sb before →
      EmptiesFor start contents caller tag sb before after (Ok reply) → Advances caller.limit before after
  emptying_advances sb before after reply lawful stands empties =
      let grows : Grows empties.copied after = end_grows start contents caller tag sb empties.copied after (Ok reply)
      empties.ends in
      let there : IsLawful start contents empties.copied = lawful_within ladder start.base empties.copied after grows lawful in
      let ends : Advances caller.limit empties.copied after =
      end_advances sb empties.copied after reply
      (stands_on start contents caller tag copies_are alone sb empties.copies there stands) empties.ends in
      advances_on caller.limit before empties.copied after (pages_grow start contents caller tag sb empties.copies) ends

  -- without a victim, a write needs room only where one may be picked
  not_worn : (room worn full : Bool) → (not room && not worn && not full) ≡ true → worn ≡ true → ⊥
  not_worn room false full needs is = false≢true is
  not_worn true true full needs is = false≢true needs
  not_worn false true full needs is = false≢true needs

  not_full : (room worn full : Bool) → (not room && not worn && not full) ≡ true → full ≡ true → ⊥
  not_full room worn false needs is = false≢true is
  not_full true worn true needs is = false≢true needs
  not_full false true true needs is = false≢true needs
  not_full false false true needs is = false≢true needs

  no_room : (room rest : Bool) → (not room && rest) ≡ true → room ≡ false
  no_room true rest e = absurd (false≢true e)
  no_room false rest e = refl

  worn_by : (victim : Option ℕ) (free : ℕ) (more : Bool) → victim ≡ None → free ≡ 0 →
      (free == 0 && (is_none victim || more)) ≡ true
  worn_by victim free more none is = rw (none, is) refl

  full_by : (victim : Option ℕ) (free garbage : ℕ) (room : Bool) → victim ≡ None → 0 < free → garbage ≡ 0 → room ≡ false →
      (nat_le 1 free && not room && is_none victim && garbage == 0) ≡ true
  full_by victim free garbage room none some is closed = rw (none, is, closed, at_least free some) refl
    where
      at_least : (n : ℕ) → 0 < n → nat_le 1 n ≡ true
      at_least n more = grind (arith, nat_tests)

  follows_advances : (before picked after : List Entry) (answer : PickAnswer) (reply : RoundReply) → open_looks before ≡ [] →
      IsLawful start contents after → needs_room start.base before ≡ true → HasStepRoom caller.limit before →
      MakesPick (OfBase start.base) tag before answer picked →
      FollowsPick start contents caller tag answer picked after (Ok reply) → Advances caller.limit before after
  follows_advances before picked after (pick.Busy sb) reply none lawful needs room made follow =
      emptying_advances sb before after reply lawful (record { none_open = none; victim_is = made.1 })
      (subst (λ (past : List Entry). EmptiesFor start contents caller tag sb past after (Ok reply)) made.0 follow)
  follows_advances before picked after pick.ReadOnly reply none lawful needs room made follow =
      absurd (not_worn (has_host_room start.base before) (is_worn start.base before) (is_full start.base before) needs
      (worn_by (victim_of start.base before) (count_of_free start.base before) _ made.1.0 made.1.1))
  follows_advances before picked after pick.NoGarbage reply none lawful needs room made follow =
      absurd (not_full (has_host_room start.base before) (is_worn start.base before) (is_full start.base before) needs
      (full_by (victim_of start.base before) (count_of_free start.base before) (count_of_garbage start.base before)
      (has_host_room start.base before) made.1.0 made.1.1 made.1.2
      (closed (has_host_room start.base before) (is_worn start.base before) (is_full start.base before) needs)))
    where
      closed : (host worn full : Bool) → (not host && not worn && not full) ≡ true → host ≡ false
      closed true worn full e = absurd (false≢true e)
      closed false worn full e = refl
  follows_advances before picked after (pick.Picked sb) reply none lawful needs room made follow =
      advances_then caller.limit before picked after (emptying_grows start contents caller tag sb picked after (Ok reply)
      follow)
      (step_advances caller.limit _ before picked room made.0)

  pub round_advances : (before after : List Entry) (reply : RoundReply) → open_looks before ≡ [] →
      IsLawful start contents after →
      needs_room start.base before ≡ true → HasPicked start contents caller tag before after (Ok reply) →
      Advances caller.limit before after
  round_advances before after reply none lawful needs picked =
      let seen : picked.picks.0 ≡ before = is_seen caller tag alone before picked.picks.0 picked.picks.1 in
      follows_advances before picked.picked after picked.answer reply none lawful needs
      (subst (λ (past : List Entry). HasStepRoom caller.limit past) seen picked.picks.2)
      (subst (λ (past : List Entry). MakesPick (OfBase start.base) tag past picked.answer picked.picked) seen picked.picks.3)
      picked.follows

  -- so does each turn after which the write goes on
  pub turn_advances : (before after : List Entry) → open_looks before ≡ [] → IsLawful start contents after →
      WritesOn start contents caller tag row before after → Advances caller.limit before after
  turn_advances before after none lawful (by_fail sb tried) =
      let seen : tried.0 ≡ before = is_seen caller tag alone before tried.0 tried.1 in
      step_advances caller.limit _ before after (subst (λ (past : List Entry). HasStepRoom caller.limit past) seen tried.2)
      (wrote before after (write.Failed sb) tried).3
  turn_advances before after none lawful (by_room reply made is) =
      let tried = wrote before made.needed write.NeedRoom made.tried in
      round_advances before after reply none lawful tried.1
      (subst (λ (past : List Entry). HasPicked start contents caller tag past after (Ok reply)) tried.0 made.round)

pub writes_are_writes : CopiesAloneAreCopies → WritesAloneAreWrites
writes_are_writes copies_are start contents caller tag row before after reply alone lawful none made =
    write_alone start contents caller tag copies_are alone row before after reply none lawful made
